use Rattle.std.proofs.Common.{◌≡◌, ◌++◌, map}
use Rattle.std.specs.List.{range_with_len}
use Rattle.program_rows.specs.declared.subject.Subject.TheVariants.{Category}
use Rattle.program_rows.proofs.rows.add_categories.Given as goal

-- those so far
abbrev pub invariant-loop-place : goal.invariant-loop-place
invariant-loop-place l = l.subjects.items ≡ l.initial.subjects.items ++ map Category (range_with_len 0 l.place)
