use Rattle.std.proofs.Common.{◌≡◌, drop, ◌+ℤ◌}
use Rattle.optimality.proofs.ColumnSumFacts.{rows_right}
use Rattle.optimality.proofs.by_rows.rows_right.Given as goal

-- the sum so far, and that of the rows that are left
abbrev pub invariant-loop-row : goal.invariant-loop-row
invariant-loop-row l = l.sum +ℤ rows_right l.program.rows (drop l.row-index l.rows) ≡ rows_right l.program.rows l.rows
