use Rattle.std.proofs.Common.{◌≡◌, ◌≤◌, ◌*◌, ◌^◌, take}
use Rattle.std.specs.Prelude.{sum_by}
use Rattle.std.specs.List.{zip}
use Rattle.award_objects.specs.Objects.{unsold}
use Rattle.award_objects.proofs.sums.all_unsold.Given as goal

-- the sum so far
abbrev pub invariant-loop-place : goal.invariant-loop-place
invariant-loop-place l = record {
  sum_is : l.sum ≡ sum_by unsold (take l.place (zip l.categories l.sold));
  small : l.sum ≤ l.place * 2 ^ 32;
}
