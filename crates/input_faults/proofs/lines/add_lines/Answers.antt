use Rattle.std.proofs.Common.{arith}
use Rattle.byte_sinks.proofs.AddingFacts.{Adds-then, Adds-to}
use Rattle.byte_sinks.proofs.KnownByteFacts.{flat_map-next_item}
use Rattle.input_faults.specs.inside.HeldLines.{kept_line}
use Rattle.input_faults.proofs.lines.add_lines.Goals as goal

pub loop-at-preserved : goal.loop-at-preserved
loop-at-preserved g c =
    Adds-to (Adds-then c.loop-at.invariant c.in_ok-add_line.ensures) (flat_map-next_item
    (kept_line c.args.format c.args.places.now) c.args.faults.now c.loop-at.at-index
    c.at-item.result c.at-item.is (omega arith))
