use Rattle.std.proofs.Common.{◌≡◌, ◌*◌, ◌^◌, ◌≤◌, drop, ◌+ℤ◌}
use Rattle.std.specs.Prelude.{unsigned_abs}
use Rattle.optimality.specs.Adding as adding
use Rattle.optimality.proofs.by_rows.least_alone.Given as goal

-- the sum so far, and that of the columns that are left; each cost is at most 2^63 in size
abbrev pub invariant-loop-column : goal.invariant-loop-column
invariant-loop-column l = (l.sum +ℤ adding.least_alone (drop l.column l.program.columns) ≡ adding.least_alone l.program.columns)
    × (unsigned_abs l.sum ≤ l.column * 2 ^ 63)
