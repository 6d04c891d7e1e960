use Rattle.std.proofs.Common.{◌≡◌, ◌≤◌, ◌*◌, ◌^◌, take}
use Rattle.std.specs.Prelude.{sum}
use Rattle.award_objects.proofs.sums.all_sold.Given as goal

-- the sum so far
abbrev pub invariant-loop-lots : goal.invariant-loop-lots
invariant-loop-lots l = record {
  sum_is : l.sum ≡ sum (take l.lots-index l.sold);
  small : l.sum ≤ l.lots-index * 2 ^ 80;
}
