-- The program that a sound text describes: what its gathered lines say, section by section.
use Rattle.std.specs.Prelude.{ℕ, ◌%◌, drop, Bool, not, ◌||◌, ◌&&◌, List, [], ◌∷◌, ◌++◌, length, map, reverse, ◌==◌}
use Rattle.std.specs.Prelude.{if◌then◌else◌, ℤ, pos, Option, codes, bytes_eq, filter, flat_map, find, unwrap_or, option_map}
use Rattle.std.specs.List.{list_any, enumerate_from}
use Rattle.std.specs.Option.{option_map_or}
use Rattle.std.specs.Result.{result_unwrap_or}
use Rattle.std.specs.Ordering.{int_eq}
use Rattle.program_rows.specs.declared.row.RowKind.{RowKind}
use Rattle.program_rows.specs.declared.row.RowKind.TheVariants.{AtMost, AtLeast, Equal}
use Rattle.program_rows.specs.declared.column.Bounds.TheVariants.{ZeroOrOne, Zero, One}
use Rattle.program_rows.specs.Program.{Table, TableRow, TableColumn}
use Rattle.auction_terms.specs.LineFields.{LineFields, field}
use Rattle.auction_terms.specs.Decimals.{number}
use Rattle.program_rows.specs.MpsSections.{Sections}

-- ---- words, numbers and pairs

-- whether a word is one of these
abbrev pub is_one_of : List ℕ → List (List ℕ) → Bool
is_one_of word words = list_any (bytes_eq word) words

-- the number of a token; 0 if it isn't a number
abbrev pub value : List ℕ → ℤ
value token = result_unwrap_or (number token) (pos 0)

-- fields two by two: the name of a row and a number
abbrev pub pairs : LineFields → List (List ℕ × List ℕ)
pairs (a ∷ b ∷ fields) = (a, b) ∷ pairs fields
pairs fields = []

-- the number of the first of these pairs that names the row, else 0
abbrev pub number_beside : List (List ℕ × List ℕ) → List ℕ → ℤ
number_beside numbers row = option_map_or (λ pair. value pair.1) (find (λ pair. bytes_eq row pair.0) numbers) (pos 0)

-- ---- RHS: pairs of a row and its right side

-- if the number of fields is odd, the first is the name of the set
abbrev pub line_right_sides : LineFields → List (List ℕ × List ℕ)
line_right_sides fields = pairs (drop (length fields % 2) fields)

-- ---- ROWS: a type and a name

-- a free row constrains nothing
abbrev pub is_free : LineFields → Bool
is_free row = bytes_eq (field 0 row) (codes "N")

-- the objective: the name of the first N row
abbrev pub first_free : List LineFields → Option (List ℕ)
first_free rows = option_map (field 1) (find is_free (reverse rows))

-- which of its sides a row bounds
abbrev pub row_kind_of : List ℕ → RowKind
row_kind_of letter = if bytes_eq letter (codes "L") then AtMost else (if bytes_eq letter (codes "G") then AtLeast else Equal)

-- the rows that are not free, in the order of the text, with their right sides
abbrev pub table_rows : List LineFields → List (List ℕ × List ℕ) → List TableRow
table_rows rows sides = map (λ row. record {
  name = field 1 row;
  kind = row_kind_of (field 0 row);
  right_side = number_beside sides
      (field 1 row);
}) (filter (λ row. not (is_free row)) (reverse rows))

-- ---- COLUMNS: the name of a column and pairs of a row and a number, between lines that are markers

-- whether a line is a marker, at which integers begin or end
abbrev pub is_marker : LineFields → Bool
is_marker fields = bytes_eq (field 1 fields) (codes "'MARKER'")

-- the lines that are no markers
abbrev pub column_lines : List LineFields → List LineFields
column_lines lines = filter (λ fields. not (is_marker fields)) lines

-- whether a line that is no marker has the name
abbrev pub is_column : List LineFields → List ℕ → Bool
is_column lines name = list_any (λ fields. bytes_eq name (field 0 fields)) (column_lines lines)

-- the columns, in the order in which the text names them first
abbrev pub columns_named : List LineFields → List (List ℕ)
columns_named [] = []
columns_named (fields ∷ before) =
    if is_marker fields || is_column before (field 0 fields) then columns_named before else columns_named before ++ field 0 fields ∷ []

-- the pairs that the lines give a column, the last line first
abbrev pub column_pairs : List LineFields → List ℕ → List (List ℕ × List ℕ)
column_pairs lines column = flat_map (λ fields. pairs (drop 1 fields)) (filter (λ fields. bytes_eq column (field 0 fields)) (column_lines lines))

-- ---- BOUNDS: a type, the name of the set if there is one, a column, and a number unless the type is BV

-- BV bounds a column by 0 and 1
abbrev pub is_binary_bound : LineFields → Bool
is_binary_bound fields = bytes_eq (field 0 fields) (codes "BV")

-- a column, and a number unless the type is BV: what follows the name of the set, if there is one
abbrev pub bound_pair : LineFields → LineFields
bound_pair fields = drop (if length fields == (if is_binary_bound fields then 2 else 3) then 1 else 2) fields

-- the last bound of one of these types on a column
abbrev pub last_bound : List (List ℕ) → List LineFields → List ℕ → Option LineFields
last_bound types bounds column = find (λ fields. is_one_of (field 0 fields) types && bytes_eq column (field 0 (bound_pair fields))) bounds

-- the lower bound of a column, by the last LO, FX or BV; 0 if there is none
abbrev pub lower : List LineFields → List ℕ → ℤ
lower bounds column = option_map_or (λ fields. if is_binary_bound fields then pos 0 else value (field 1 (bound_pair fields)))
    (last_bound (codes "LO" ∷ codes "FX" ∷ codes "BV" ∷ []) bounds column) (pos 0)

-- the upper bound of a column, by the last UP, FX or BV, if there is one
abbrev pub upper : List LineFields → List ℕ → Option ℤ
upper bounds column = option_map (λ fields. if is_binary_bound fields then pos 1 else value (field 1 (bound_pair fields)))
    (last_bound (codes "UP" ∷ codes "FX" ∷ codes "BV" ∷ []) bounds column)

-- ---- the whole

-- a column: which of 0 and 1 its bounds leave, its cost, and its coefficients that are not 0, by the places of the rows
abbrev pub table_column : Sections → List ℕ → TableColumn
table_column s name = record {
  name = name;
  bounds = if int_eq (lower s.bounds name) (pos 1) then One else (if int_eq (unwrap_or (upper s.bounds name) (pos 1)) (pos 0) then Zero else ZeroOrOne);
  cost = number_beside (column_pairs s.columns name) (unwrap_or (first_free s.rows) []);
  entries = filter (λ e. not (int_eq e.1 (pos 0)))
      (map (λ r. (r.0, number_beside (column_pairs s.columns name) r.1.name)) (enumerate_from 0 (table_rows s.rows (flat_map line_right_sides s.right_sides))));
}

-- the objective, the rows and the columns
unfoldable pub program : Sections → Table
program s = record {
  objective = unwrap_or (first_free s.rows) [];
  rows = table_rows s.rows (flat_map line_right_sides s.right_sides);
  columns = map (table_column s) (columns_named s.columns);
}
