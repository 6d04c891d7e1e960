use Rattle.std.proofs.Common.{take, map}
use Rattle.std.specs.Prelude.{flat_map}
use Rattle.program_rows.specs.Parts.{shown_row}
use Rattle.mps_text.specs.Bytes.{entry_bytes}
use Rattle.byte_sinks.specs.Adds.{Adds}
use Rattle.mps_text.proofs.sections.add_long_entries.Given as goal

-- the lines so far are added
abbrev pub invariant-loop-place : goal.invariant-loop-place
invariant-loop-place g l = Adds g.S.Sink.state l.initial.writer l.writer
    (flat_map (entry_bytes (map shown_row l.rows) l.name) (take l.place-index l.entries))
