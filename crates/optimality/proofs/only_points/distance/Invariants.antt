use Rattle.std.proofs.Common.{◌≡◌, ◌++◌, drop}
use Rattle.optimality.specs.OnlyPoints.{distance}
use Rattle.optimality.proofs.only_points.distance.Given as goal

-- the terms so far, followed by those of the columns that are left
abbrev pub invariant-loop-column : goal.invariant-loop-column
invariant-loop-column l = l.form.items ++ distance l.column (drop l.column l.program.columns) (drop l.column l.values) ≡ distance 0 l.program.columns l.values
