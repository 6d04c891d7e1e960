use Rattle.std.proofs.Common.{◌≡◌, vec_len}
use Rattle.optimality.specs.inside.Branches.{branches_of}
use Rattle.optimality.specs.Branches.{closed}
use Rattle.optimality.proofs.lines.close.Given as goal

-- the splits that are left lead to the same side
abbrev pub invariant-loop-split : goal.invariant-loop-split
invariant-loop-split l = closed (branches_of l.splits.items) ≡ closed (branches_of l.fn.splits.items)

abbrev pub decreases-loop-split : goal.decreases-loop-split
decreases-loop-split l = vec_len l.splits
