use Rattle.std.proofs.Common.{◌≡◌, ◌++◌, drop}
use Rattle.program_rows.specs.Faithful.{back}
use Rattle.outcome.proofs.mapping.bids_at_one.Given as goal

-- the bids so far, followed by those of the columns that are left
abbrev pub invariant-loop-column : goal.invariant-loop-column
invariant-loop-column l = l.bids.items ++ back (drop l.column l.program.columns) (drop l.column l.point) ≡ back l.program.columns l.point
