use Rattle.std.proofs.Common.{sym}
use Rattle.program_rows.specs.Parts.{shown_row}
use Rattle.mps_text.specs.Bytes.{right_side_bytes, row_bytes}
use Rattle.byte_sinks.proofs.AddingFacts.{Adds-to}
use Rattle.std.proofs.lemmas.List.Folds.{flat_map-map}
use Rattle.group_compiler.proofs.rendering.add_lines.Goals as goal

pub returns-in-Rows : goal.returns-in-Rows
returns-in-Rows g c = rw c.in-Rows.is (Adds-to c.add_rows.ensures (sym (flat_map-map row_bytes shown_row c.args.rows.now)))

pub returns-in-RightSides : goal.returns-in-RightSides
returns-in-RightSides g c = rw c.in-RightSides.is (Adds-to c.add_right_sides.ensures (sym (flat_map-map right_side_bytes shown_row c.args.rows.now)))
