use Rattle.std.proofs.Common.{◌≡◌, ◌+◌, ◌*◌, ◌^◌, ◌≤◌, drop, pos, ◌+ℤ◌}
use Rattle.std.specs.Prelude.{unsigned_abs}
use Rattle.program_rows.specs.Points.{objective, sum_at_one}
use Rattle.optimality.proofs.only_points.one_above.Given as goal

-- the sum so far, with the costs of the columns that are left; each cost is at most 2^63 in size
abbrev pub invariant-loop-column : goal.invariant-loop-column
invariant-loop-column l = (l.sum +ℤ sum_at_one (λ c. c.cost) (drop l.column l.program.columns) (drop l.column l.values) ≡ objective l.program l.values +ℤ pos 1)
    × (unsigned_abs l.sum ≤ 1 + l.column * 2 ^ 63)
