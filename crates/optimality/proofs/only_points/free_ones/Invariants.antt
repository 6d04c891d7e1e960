use Rattle.std.proofs.Common.{◌≡◌, ◌+◌, ◌≤◌, drop}
use Rattle.optimality.specs.OnlyPoints.{free_ones}
use Rattle.optimality.proofs.only_points.free_ones.Given as goal

-- the ones so far, with those of the columns that are left
abbrev pub invariant-loop-column : goal.invariant-loop-column
invariant-loop-column l = (l.ones + free_ones (drop l.column l.program.columns) (drop l.column l.values) ≡ free_ones l.program.columns
    l.values) × (l.ones ≤ l.column)
