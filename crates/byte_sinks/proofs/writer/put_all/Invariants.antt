use Rattle.std.proofs.Common.{◌≡◌, ◌+◌, ◌-◌, ◌≤◌, take, length}
use Rattle.std.specs.Io.KnownBytes.{Appends}
use Rattle.std.specs.Prelude.{min, ◌^◌}
use Rattle.byte_sinks.proofs.writer.put_all.Given as goal

-- a front of the bytes has gone out
abbrev pub invariant-loop-from : goal.invariant-loop-from
invariant-loop-from g l = record {
  within : l.from ≤ length l.bytes;
  gone : Appends (g.S.Sink.state l.initial.sink).taken (g.S.Sink.state l.sink).taken (take l.from l.bytes);
  count : l.sent ≡ min (l.initial.sent + l.from) (2 ^ 64 - 1);
  failures : (g.S.Sink.state l.sink).failures ≡ (g.S.Sink.state l.initial.sink).failures;
  place : (g.S.Sink.state l.sink).place ≡ (g.S.Sink.state l.initial.sink).place;
}

abbrev pub decreases-loop-from : goal.decreases-loop-from
decreases-loop-from g l = length l.initial.bytes - l.from
