use Rattle.std.proofs.Common.{◌≡◌, ◌∷◌, take}
use Rattle.optimality.specs.OnlyPoints.{all_but}
use Rattle.optimality.specs.inside.Branches.{branches_of}
use Rattle.optimality.proofs.only_points.open_splits.Given as goal

-- the splits so far
abbrev pub invariant-loop-other : goal.invariant-loop-other
invariant-loop-other l = branches_of l.splits.items ≡ all_but l.program (l.first ∷ take l.other-index l.others)
