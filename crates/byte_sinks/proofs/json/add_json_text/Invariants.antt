use Rattle.std.proofs.Common.{take}
use Rattle.std.specs.Prelude.{flat_map}
use Rattle.byte_sinks.specs.Adds.{Adds}
use Rattle.byte_sinks.specs.Json.{json_byte}
use Rattle.byte_sinks.proofs.json.add_json_text.Given as goal

-- the bytes so far are added
abbrev pub invariant-loop-byte : goal.invariant-loop-byte
invariant-loop-byte g l = Adds g.S.Sink.state l.initial.writer l.writer (flat_map json_byte (take l.byte-index l.bytes))
