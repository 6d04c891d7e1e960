use Rattle.std.proofs.Common.{take}
use Rattle.std.specs.Prelude.{flat_map}
use Rattle.mps_text.specs.Bytes.{bound_bytes}
use Rattle.byte_sinks.specs.Adds.{Adds}
use Rattle.mps_text.proofs.sections.add_bounds.Given as goal

-- the lines so far are added
abbrev pub invariant-loop-place : goal.invariant-loop-place
invariant-loop-place g l = Adds g.S.Sink.state l.initial.writer l.writer (flat_map bound_bytes (take l.place l.columns))
