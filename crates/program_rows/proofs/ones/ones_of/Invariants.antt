use Rattle.std.proofs.Common.{◌≡◌, ◌++◌, drop}
use Rattle.program_rows.specs.inside.Ones.{ones_from}
use Rattle.program_rows.proofs.ones.ones_of.Given as goal

-- the places so far come before those of the values that are left
abbrev pub invariant-loop-place : goal.invariant-loop-place
invariant-loop-place l = l.ones.items ++ ones_from l.place (drop l.place l.values) ≡ ones_from 0 l.values
