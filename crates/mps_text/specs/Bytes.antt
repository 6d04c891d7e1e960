-- The bytes of the lines of each row and column, and of each section.
use Rattle.std.specs.Prelude.{ℕ, List, [], ◌∷◌, ◌++◌, codes, flat_map, ℤ}
use Rattle.std.specs.Fmt.{signed_decimal}
use Rattle.program_rows.specs.Program.{TableRow, TableColumn}
use Rattle.program_rows.specs.MpsLines.{Data}
use Rattle.mps_text.specs.Text.{written, kind_letter, bound_words}
use Rattle.program_rows.specs.ProgramNames.{row_name}

-- the line of ROWS for a row: the letter of its kind and its name
abbrev pub row_bytes : TableRow → List ℕ
row_bytes r = written (Data (kind_letter r.kind ∷ r.name ∷ []))

-- the line of RHS for a row: its name and its right side
abbrev pub right_side_bytes : TableRow → List ℕ
right_side_bytes r = written (Data (codes "RHS" ∷ r.name ∷ signed_decimal r.right_side ∷ []))

-- the line of BOUNDS for a column: the type of its bound, its name and the number of the bound
abbrev pub bound_bytes : TableColumn → List ℕ
bound_bytes c = written (Data ((bound_words c.bounds).0 ∷ codes "BND" ∷ c.name ∷ (bound_words c.bounds).1 ∷ []))

-- the line of COLUMNS for an entry: the name of its column, the name of its row and the coefficient
abbrev pub entry_bytes : List TableRow → List ℕ → ℕ × ℤ → List ℕ
entry_bytes rows name e = written (Data (name ∷ row_name rows e.0 ∷ signed_decimal e.1 ∷ []))

-- the line of COLUMNS for the cost of a column: its name, the name of the objective and the cost
abbrev pub cost_bytes : List ℕ → TableColumn → List ℕ
cost_bytes objective c = written (Data (c.name ∷ objective ∷ signed_decimal c.cost ∷ []))

-- the cost and the entries of a column
abbrev pub column_bytes : List ℕ → List TableRow → TableColumn → List ℕ
column_bytes objective rows c = cost_bytes objective c ++ flat_map (entry_bytes rows c.name) c.entries
