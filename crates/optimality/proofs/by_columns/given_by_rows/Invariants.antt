use Rattle.std.proofs.Common.{◌≡◌, drop, ◌+ℤ◌}
use Rattle.optimality.specs.inside.ByEntries.{entries_given}
use Rattle.optimality.proofs.by_columns.given_by_rows.Given as goal

-- the sum so far, and what the entries that are left give
abbrev pub invariant-loop-i : goal.invariant-loop-i
invariant-loop-i l = l.sum +ℤ entries_given l.multipliers (drop l.i l.entries) ≡ entries_given l.multipliers l.entries
