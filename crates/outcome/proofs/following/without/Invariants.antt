use Rattle.std.proofs.Common.{◌≡◌, take}
use Rattle.auction_terms.specs.Packages.{left}
use Rattle.outcome.proofs.following.without.Given as goal

-- what the others take of the categories so far
abbrev pub invariant-loop-place : goal.invariant-loop-place
invariant-loop-place l = l.others.items ≡ take l.place (left l.all l.part)
