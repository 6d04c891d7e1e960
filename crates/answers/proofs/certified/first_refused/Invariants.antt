use Rattle.answers.specs.inside.Judging.{AreFine}
use Rattle.answers.proofs.certified.first_refused.Given as goal

-- the certificates so far have no fault
abbrev pub invariant-loop-place : goal.invariant-loop-place
invariant-loop-place l = AreFine l.programs l.bounds l.place
