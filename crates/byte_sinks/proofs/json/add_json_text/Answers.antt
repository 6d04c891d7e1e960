use Rattle.std.proofs.Common.{arith}
use Rattle.byte_sinks.proofs.AddingFacts.{Adds-then, Adds-to}
use Rattle.byte_sinks.proofs.KnownByteFacts.{flat_map-next_or}
use Rattle.byte_sinks.specs.Json.{json_byte}
use Rattle.byte_sinks.proofs.json.add_json_text.Goals as goal

pub loop-byte-preserved : goal.loop-byte-preserved
loop-byte-preserved g c =
    Adds-to (Adds-then c.loop-byte.invariant c.add_json_byte.ensures) (flat_map-next_or json_byte c.args.bytes.now c.loop-byte.byte-index _ (omega arith))
