use Rattle.std.proofs.Common.{◌≡◌, ◌++◌, map}
use Rattle.std.specs.List.{range_with_len}
use Rattle.program_rows.specs.declared.subject.Subject.TheVariants.{Pool}
use Rattle.program_rows.proofs.rows.add_pools.Given as goal

-- those so far
abbrev pub invariant-loop-place : goal.invariant-loop-place
invariant-loop-place l = l.subjects.items ≡ l.initial.subjects.items ++ map Pool (range_with_len 0 l.place)
