use Rattle.std.proofs.Common.{◌≡◌, ◌≤◌, ◌+◌, ◌*◌, ◌^◌, drop}
use Rattle.prices.specs.inside.Weighing.{weight_by}
use Rattle.prices.proofs.weights.weight_on.Given as goal

-- with the weights of the other groups it is the whole
abbrev pub invariant-loop-place : goal.invariant-loop-place
invariant-loop-place l = record {
  sum_is : l.sum + weight_by (drop l.place l.groups) (drop l.place l.weights) l.bidder ≡ weight_by l.groups l.weights l.bidder;
  small : l.sum ≤ l.place * 2 ^ 64;
}
