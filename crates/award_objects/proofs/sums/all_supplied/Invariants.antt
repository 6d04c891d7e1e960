use Rattle.std.proofs.Common.{◌≡◌, ◌≤◌, ◌*◌, ◌^◌, take}
use Rattle.std.specs.Prelude.{sum_by}
use Rattle.award_objects.proofs.sums.all_supplied.Given as goal

-- the sum so far
abbrev pub invariant-loop-category : goal.invariant-loop-category
invariant-loop-category l = record {
  sum_is : l.sum ≡ sum_by (λ category. category.supply) (take l.category-index l.categories);
  small : l.sum ≤ l.category-index * 2 ^ 32;
}
