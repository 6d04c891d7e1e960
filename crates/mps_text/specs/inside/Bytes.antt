-- The bytes of the lines of each row and column, and of each section.
use Rattle.std.specs.Prelude.{ℕ, List, [], ◌∷◌, ◌++◌, map, flat_map, codes}
use Rattle.program_rows.specs.declared.program.ProgramParts.{ProgramParts}
use Rattle.program_rows.specs.Parts.{shown_row}
use Rattle.program_rows.specs.MpsLines.{Data}
use Rattle.mps_text.specs.Text.{written}
use Rattle.mps_text.specs.Bytes.{bound_bytes, column_bytes, right_side_bytes, row_bytes}

-- nothing if there is no item
abbrev pub where_any : {X : Type 0} → List X → List ℕ → List ℕ
where_any [] bytes = []
where_any (x ∷ xs) bytes = bytes

-- NAME, and ROWS with the objective and its lines
abbrev pub rows_bytes : ProgramParts → List ℕ
rows_bytes p = codes "NAME wdp\nROWS\n" ++ written (Data (codes "N" ∷ p.objective_name.items ∷ [])) ++ flat_map (λ r. row_bytes (shown_row r)) p.rows.items

-- the marker at which the integers begin, and the lines of all columns
abbrev pub opened_bytes : ProgramParts → List ℕ
opened_bytes p = codes " M1 'MARKER' 'INTORG'\n" ++ flat_map (column_bytes p.objective_name.items (map shown_row p.rows.items)) p.columns

-- the columns between markers
abbrev pub columns_bytes : ProgramParts → List ℕ
columns_bytes p = where_any p.columns (opened_bytes p ++ codes " M2 'MARKER' 'INTEND'\n")

-- RHS with its lines
abbrev pub right_sides_bytes : ProgramParts → List ℕ
right_sides_bytes p = codes "RHS\n" ++ flat_map (λ r. right_side_bytes (shown_row r)) p.rows.items

-- BOUNDS with its lines
abbrev pub bounds_bytes : ProgramParts → List ℕ
bounds_bytes p = where_any p.columns (codes "BOUNDS\n" ++ flat_map bound_bytes p.columns)

-- the text of a program that is made of these parts, section by section
abbrev pub parts_bytes : ProgramParts → List ℕ
parts_bytes p = rows_bytes p ++ codes "COLUMNS\n" ++ columns_bytes p ++ right_sides_bytes p ++ bounds_bytes p ++ codes "ENDATA\n"
