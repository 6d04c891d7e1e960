-- The data lines of a row, of its right side, of a column and of its bounds, and the lines of each section.
use Rattle.std.specs.Prelude.{List, [], ◌∷◌, ◌++◌, codes, flat_map, map}
use Rattle.std.specs.Fmt.{signed_decimal}
use Rattle.program_rows.specs.Program.{Table, TableRow, TableColumn}
use Rattle.auction_terms.specs.LineFields.{LineFields}
use Rattle.program_rows.specs.ProgramNames.{row_name}
use Rattle.program_rows.specs.MpsLines.{Line, Header}
use Rattle.mps_text.specs.Text.{block, bound_words, if_any, kind_letter}

abbrev pub row_fields : TableRow → LineFields
row_fields r = kind_letter r.kind ∷ r.name ∷ []

abbrev pub right_side_fields : TableRow → LineFields
right_side_fields r = codes "RHS" ∷ r.name ∷ signed_decimal r.right_side ∷ []

abbrev pub bound_fields : TableColumn → LineFields
bound_fields c = (bound_words c.bounds).0 ∷ codes "BND" ∷ c.name ∷ (bound_words c.bounds).1 ∷ []

-- the cost, also if it is 0, and the entries
abbrev pub column_fields : Table → TableColumn → List LineFields
column_fields p c = (c.name ∷ p.objective ∷ signed_decimal c.cost ∷ []) ∷ map (λ e. c.name ∷ row_name p.rows e.0 ∷ signed_decimal e.1 ∷ []) c.entries

abbrev pub first_marker : LineFields
first_marker = codes "M1" ∷ codes "'MARKER'" ∷ codes "'INTORG'" ∷ []

abbrev pub last_marker : LineFields
last_marker = codes "M2" ∷ codes "'MARKER'" ∷ codes "'INTEND'" ∷ []

abbrev pub name_line : Line
name_line = Header (codes "NAME") (codes "wdp" ∷ [])

abbrev pub rows_part : Table → List Line
rows_part p = block (codes "ROWS") ((codes "N" ∷ p.objective ∷ []) ∷ map row_fields p.rows)

abbrev pub columns_part : Table → List Line
columns_part p = block (codes "COLUMNS") (if_any p.columns (first_marker ∷ flat_map (column_fields p) p.columns ++ last_marker ∷ []))

abbrev pub sides_part : Table → List Line
sides_part p = block (codes "RHS") (map right_side_fields p.rows)

abbrev pub bounds_part : Table → List Line
bounds_part p = block (codes "BOUNDS") (map bound_fields p.columns)

abbrev pub end_line : Line
end_line = Header (codes "ENDATA") []
