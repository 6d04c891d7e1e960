use Rattle.std.proofs.Common.{◌≡◌, drop, ◌+ℤ◌}
use Rattle.optimality.proofs.ColumnSumFacts.{cuts_right}
use Rattle.optimality.specs.Holding.{cuts_of}
use Rattle.optimality.proofs.by_rows.cuts_right.Given as goal

-- the sum so far, and that of the cuts that are left
abbrev pub invariant-loop-i : goal.invariant-loop-i
invariant-loop-i l = l.sum +ℤ cuts_right (drop l.i l.multipliers) (cuts_of (drop l.i l.splits)) ≡ cuts_right l.multipliers (cuts_of l.splits)
