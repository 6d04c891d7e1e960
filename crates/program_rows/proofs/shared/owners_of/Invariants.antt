use Rattle.std.proofs.Common.{◌≡◌, map, take}
use Rattle.program_rows.specs.Selections.{owner_of}
use Rattle.program_rows.proofs.shared.owners_of.Given as goal

-- the owners so far
abbrev pub invariant-loop-subject : goal.invariant-loop-subject
invariant-loop-subject l = l.owners.items ≡ map owner_of (take l.subject-index l.subjects)
