use Rattle.std.proofs.Common.{◌≡◌, take}
use Rattle.program_rows.specs.ProgramNames.{column_names}
use Rattle.auction_terms.specs.Lines.{bytes_of}
use Rattle.outcome.proofs.reading.finder_of.Given as goal

-- the names so far
abbrev pub invariant-loop-column : goal.invariant-loop-column
invariant-loop-column l = bytes_of l.names.keys ≡ take l.column (column_names l.program)
