use Rattle.std.proofs.Common.{take}
use Rattle.std.specs.Prelude.{flat_map}
use Rattle.program_rows.specs.Parts.{shown_row}
use Rattle.mps_text.specs.Bytes.{right_side_bytes}
use Rattle.byte_sinks.specs.Adds.{Adds}
use Rattle.mps_text.proofs.sections.add_right_sides.Given as goal

-- the lines so far are added
abbrev pub invariant-loop-row : goal.invariant-loop-row
invariant-loop-row g l = Adds g.S.Sink.state l.initial.writer l.writer
    (flat_map (λ r. right_side_bytes (shown_row r)) (take l.row-index l.rows))
