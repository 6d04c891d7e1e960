use Rattle.std.proofs.Common.{arith}
use Rattle.program_rows.specs.Parts.{shown_row}
use Rattle.mps_text.specs.Bytes.{row_bytes}
use Rattle.byte_sinks.proofs.AddingFacts.{Adds-then, Adds-to}
use Rattle.byte_sinks.proofs.KnownByteFacts.{flat_map-next_item}
use Rattle.mps_text.proofs.sections.add_rows.Goals as goal

pub loop-row-preserved : goal.loop-row-preserved
loop-row-preserved g c =
    Adds-to (Adds-then c.loop-row.invariant (rw (c.letter.ensures, c.as_slice.ensures.value) at c.add_two.ensures)) (flat_map-next_item (λ r. row_bytes (shown_row r)) c.args.rows.now
    c.loop-row.row-index c.row-item.result c.row-item.is (omega arith))
