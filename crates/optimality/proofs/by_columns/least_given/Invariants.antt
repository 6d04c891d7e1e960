use Rattle.std.proofs.Common.{◌≡◌, drop, ◌+ℤ◌}
use Rattle.optimality.specs.Adding.{number_at}
use Rattle.optimality.proofs.ColumnSumFacts.{least_sum}
use Rattle.optimality.proofs.LeafFacts.{with_given}
use Rattle.optimality.proofs.by_columns.least_given.Given as goal

-- the sum so far, and that of the columns that are left
abbrev pub invariant-loop-column : goal.invariant-loop-column
invariant-loop-column l =
    l.sum +ℤ least_sum (with_given l.scale (number_at l.given)) l.column (drop l.column l.program.columns)
    ≡ least_sum (with_given l.scale (number_at l.given)) 0 l.program.columns
