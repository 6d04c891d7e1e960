use Rattle.std.proofs.Common.{◌≡◌, ◌≤◌, ◌+◌, ◌*◌, ◌^◌, drop}
use Rattle.auction_terms.specs.Packages.{weighed}
use Rattle.award_objects.proofs.lots.weighed.Given as goal

-- with the lots of the other categories it is the whole
abbrev pub invariant-loop-place : goal.invariant-loop-place
invariant-loop-place l = record {
  load_is : l.load + weighed (drop l.place l.weights) (drop l.place l.lots) ≡ weighed l.weights l.lots;
  small : l.load ≤ l.place * 2 ^ 96;
}
