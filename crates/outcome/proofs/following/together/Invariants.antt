use Rattle.std.proofs.Common.{◌≡◌, true, take}
use Rattle.outcome.specs.inside.Following.{both_packages}
use Rattle.outcome.proofs.QuantityFacts.{are_small}
use Rattle.outcome.proofs.following.together.Given as goal

-- both packages in the categories so far, none of which is too large
abbrev pub invariant-loop-place : goal.invariant-loop-place
invariant-loop-place l = record {
  lots_are : l.both.items ≡ take l.place (both_packages l.theirs l.ours);
  small : are_small (take l.place (both_packages l.theirs l.ours)) ≡ true;
}
