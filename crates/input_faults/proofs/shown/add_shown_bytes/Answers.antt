use Rattle.std.proofs.Common.{arith}
use Rattle.byte_sinks.proofs.AddingFacts.{Adds-then, Adds-to}
use Rattle.byte_sinks.proofs.KnownByteFacts.{flat_map-next_or}
use Rattle.input_faults.specs.Shown.{shown_byte}
use Rattle.input_faults.proofs.shown.add_shown_bytes.Goals as goal

pub loop-byte-preserved : goal.loop-byte-preserved
loop-byte-preserved g c =
    Adds-to (Adds-then c.loop-byte.invariant c.add_shown_byte.ensures) (flat_map-next_or shown_byte c.args.bytes.now c.loop-byte.byte-index _ (omega arith))
