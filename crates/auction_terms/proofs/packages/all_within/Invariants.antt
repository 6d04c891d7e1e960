use Rattle.std.proofs.Common.{◌≡◌, drop}
use Rattle.auction_terms.specs.Packages.{is_within}
use Rattle.auction_terms.proofs.packages.all_within.Given as goal

abbrev pub invariant-loop-place : goal.invariant-loop-place
invariant-loop-place l = is_within l.smaller l.greater ≡ is_within (drop l.place l.smaller) (drop l.place l.greater)
