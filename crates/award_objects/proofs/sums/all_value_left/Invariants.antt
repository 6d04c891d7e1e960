use Rattle.std.proofs.Common.{◌≡◌, ◌≤◌, ◌*◌, ◌^◌, take}
use Rattle.std.specs.Prelude.{sum_by}
use Rattle.std.specs.List.{zip}
use Rattle.award_objects.specs.Objects.{value_left}
use Rattle.award_objects.proofs.sums.all_value_left.Given as goal

-- the sum so far
abbrev pub invariant-loop-place : goal.invariant-loop-place
invariant-loop-place l = record {
  sum_is : l.sum ≡ sum_by value_left (take l.place (zip l.categories l.sold));
  small : l.sum ≤ l.place * 2 ^ 96;
}
