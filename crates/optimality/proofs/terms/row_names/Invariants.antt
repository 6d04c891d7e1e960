use Rattle.std.proofs.Common.{◌≡◌, take}
use Rattle.program_rows.specs.ProgramNames.{row_names}
use Rattle.auction_terms.specs.Lines.{bytes_of}
use Rattle.optimality.proofs.terms.row_names.Given as goal

-- the names so far
abbrev pub invariant-loop-row : goal.invariant-loop-row
invariant-loop-row l = bytes_of l.names.keys ≡ take l.row (row_names l.program)
