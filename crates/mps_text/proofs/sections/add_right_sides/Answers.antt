use Rattle.std.proofs.Common.{arith, rules, w64}
use Rattle.std.proofs.lemmas.Int.{to_z-of_z}
use mir.Val.{SFits}
use Rattle.program_rows.specs.Parts.{shown_row}
use Rattle.mps_text.specs.Bytes.{right_side_bytes}
use Rattle.byte_sinks.proofs.AddingFacts.{Adds-then, Adds-to}
use Rattle.byte_sinks.proofs.KnownByteFacts.{flat_map-next_item}
use Rattle.mps_text.proofs.sections.add_right_sides.Goals as goal

pub loop-row-preserved : goal.loop-row-preserved
loop-row-preserved g c =
    let fits : SFits w64 c.row-item.result.right_side = search rules in
    Adds-to (Adds-then c.loop-row.invariant (rw (c.as_slice.ensures.value, to_z-of_z w64 c.row-item.result.right_side fits) at c.add_number.ensures))
    (flat_map-next_item (λ r. right_side_bytes (shown_row r)) c.args.rows.now c.loop-row.row-index c.row-item.result c.row-item.is
    (omega arith))
