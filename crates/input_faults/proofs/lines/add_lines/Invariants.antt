use Rattle.std.proofs.Common.{take}
use Rattle.std.specs.Prelude.{flat_map}
use Rattle.byte_sinks.specs.Adds.{Adds}
use Rattle.input_faults.specs.inside.HeldLines.{kept_line}
use Rattle.input_faults.proofs.lines.add_lines.Given as goal

-- the lines so far are added
abbrev pub invariant-loop-at : goal.invariant-loop-at
invariant-loop-at g l = Adds g.S.Sink.state l.initial.writer l.writer (flat_map (kept_line l.format l.places) (take l.at-index l.faults))
