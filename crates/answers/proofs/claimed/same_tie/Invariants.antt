use Rattle.std.proofs.Common.{◌≡◌, ◌+◌, drop}
use Rattle.answers.specs.Claimed.{same_tie}
use Rattle.answers.proofs.claimed.same_tie.Given as goal

-- no tie before the place has the same winners
abbrev pub invariant-loop-place : goal.invariant-loop-place
invariant-loop-place l = same_tie (l.place + 1) (drop l.place l.ties) l.award ≡ same_tie 1 l.ties l.award
