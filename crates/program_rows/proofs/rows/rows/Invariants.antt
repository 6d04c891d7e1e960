use Rattle.std.proofs.Common.{◌≡◌, map, take}
use Rattle.auction_terms.specs.Terms.{lots_in}
use Rattle.program_rows.specs.Parts.{shown_row}
use Rattle.program_rows.specs.Rows.{row_of}
use Rattle.program_rows.proofs.rows.rows.Given as goal

-- the rows of the first subjects
abbrev pub invariant-loop-subject : goal.invariant-loop-subject
invariant-loop-subject l = map shown_row l.rows.items ≡ map (row_of (lots_in l.rules)) (take l.subject-index l.subjects)
