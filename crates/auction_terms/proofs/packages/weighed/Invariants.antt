use Rattle.std.proofs.Common.{◌≡◌, ◌≤◌, ◌+◌, ◌*◌, ◌^◌, drop}
use Rattle.auction_terms.specs.Packages.{weighed}
use Rattle.auction_terms.proofs.packages.weighed.Given as goal

abbrev pub invariant-loop-place : goal.invariant-loop-place
invariant-loop-place l = (l.sum + weighed (drop l.place l.weights) (drop l.place l.quantities) ≡ weighed l.weights l.quantities) × (l.sum ≤ 2 ^ 32 * l.place)
