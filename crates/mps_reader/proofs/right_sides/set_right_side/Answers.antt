use Rattle.std.proofs.Common.{w64}
use Rattle.std.proofs.lemmas.Int.{to_z-of_z}
use Rattle.mps_reader.proofs.FitFacts.{side-set}
use Rattle.mps_reader.proofs.right_sides.set_right_side.Goals as goal

pub returns : goal.returns
returns c =
    rw (to_z-of_z w64 c.args.value c.ranges.value) (side-set c.args.rows.now.items c.args.place c.args.value c.index_mut.result.now c.requires
    c.index_mut.ensures.value)
