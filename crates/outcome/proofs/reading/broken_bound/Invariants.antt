use Rattle.std.proofs.Common.{◌≡◌, drop}
use Rattle.std.specs.List.{position_from, zip}
use Rattle.std.specs.Prelude.{position}
use Rattle.outcome.proofs.BoundFacts.{breaks}
use Rattle.outcome.proofs.reading.broken_bound.Given as goal

-- no bound before the column is broken
abbrev pub invariant-loop-column : goal.invariant-loop-column
invariant-loop-column l = position_from breaks l.column (zip (drop l.column l.program.columns) (drop l.column l.values))
    ≡ position breaks (zip l.program.columns l.values)
