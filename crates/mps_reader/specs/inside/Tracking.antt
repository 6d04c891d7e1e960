-- What a reading holds of the lines before.
use Rattle.std.specs.Prelude.{◌≡◌, ℕ, ◌+◌, ◌++◌, ◌≤◌, ◌==◌, ◌||◌, ◌&&◌, Bool, true, false, List, [], ◌∷◌, length, map}
use Rattle.std.specs.Prelude.{slice_get, if◌then◌else◌, ℤ, pos, Option, Some, None, IfSome, is_some, codes, bytes_eq}
use Rattle.std.specs.Prelude.{option_map, unwrap_or, flat_map}
use Rattle.std.specs.List.{list_any, AllByRecursion}
use Rattle.std.specs.Option.{option_map_or}
use denote.Ref.{Bor}
use Rattle.auction_terms.specs.LineFields.{LineFields, field}
use Rattle.program_rows.specs.MpsSections.{Sections}
use Rattle.program_rows.specs.MpsProgram.{first_free, table_rows, columns_named, lower, upper, is_binary_bound}
use Rattle.program_rows.specs.MpsProgram.{column_pairs, number_beside, line_right_sides, bound_pair}
use Rattle.program_rows.specs.MpsFaults.{is_integer_open, stands_in_integers}
use Rattle.program_rows.specs.declared.column.Bounds.TheVariants.{ZeroOrOne}
use Rattle.program_rows.specs.Program.{TableColumn}
use Rattle.program_rows.specs.Parts.{shown_row}
use Rattle.mps_reader.specs.inside.Columns.{entries_at, nearest_column}
use Rattle.mps_reader.specs.inside.Rows.{names_of, option_now, declared_row_names, StampsAre, declared_names}
use Rattle.mps_reader.specs.inside.Sections.{word_of}
use Rattle.mps_reader.specs.declared.sections.Section.{Section}
use Rattle.mps_reader.specs.declared.sections.Section.TheVariants as sections
use Rattle.mps_reader.specs.declared.tables.Rows.{Rows}
use Rattle.mps_reader.specs.declared.tables.ColumnState.{ColumnState}
use Rattle.mps_reader.specs.declared.tables.ColumnTable.{ColumnTable}
use Rattle.mps_reader.specs.declared.tables.OpenColumn.{OpenColumn}
use Rattle.mps_reader.specs.declared.tables.Reading.{Reading}

-- the rows and the objective that are held are those that the lines of ROWS and RHS describe
pub record RowsTell (rows rights : List LineFields) (r : Rows) : Type 0 where
  pub names : names_of r.names ≡ declared_names rows
  pub shown : map shown_row r.rows.items ≡ table_rows rows (flat_map line_right_sides rights)
  pub objective : option_now r.objective ≡ first_free rows

-- no stamp is above this one
abbrev pub AreStampsUpTo : ℕ → Rows → Type 0
AreStampsUpTo most r = AllByRecursion (λ stamp. stamp ≤ most) r.stamps.items

-- the number at a place, 0 if no entry has it
abbrev pub number_at_place : ℕ → List (ℕ × ℤ) → ℤ
number_at_place place [] = pos 0
number_at_place place (e ∷ entries) = if e.0 == place then e.1 else number_at_place place entries

-- the open column's cost and entries are these numbers of the rows
pub record HoldsNumbers (objective : Option (List ℕ)) (rows : List (List ℕ)) (number : List ℕ → ℤ) (column : OpenColumn) : Type 0 where
  pub cost : column.cost ≡ number (unwrap_or objective [])
  pub entries : (place : ℕ) (row : List ℕ) → slice_get rows place ≡ Some row → number_at_place place column.entries.items ≡ number row

-- the number that a bound is: true is 1, false is 0
abbrev pub bit : Bool → ℤ
bit true = pos 1
bit false = pos 0

-- whether a column is an integer, and its bounds
abbrev pub state_values : ColumnState → Bool × ℤ × Option ℤ
state_values s = (s.is_integer, bit s.lower, option_map bit s.upper)

-- a bound's word and number change them
abbrev pub bounded_values : List ℕ → ℤ → Bool × ℤ × Option ℤ → Bool × ℤ × Option ℤ
bounded_values word number v = (v.0, if bytes_eq word (codes "UP") then v.1 else number, if bytes_eq word (codes "LO") then v.2 else Some number)

-- whether the lines make a column an integer, and the bounds that they give it
abbrev pub parsed_values : List LineFields → List LineFields → List ℕ → Bool × ℤ × Option ℤ
parsed_values lines bounds column = (
  stands_in_integers column lines || list_any (λ fields. is_binary_bound fields && bytes_eq column (field 0 (bound_pair fields))) bounds,
  lower bounds column,
  upper bounds column,
)

-- a column whose lines are all read, but for its bounds
abbrev pub gathered_column : Option (List ℕ) → List (List ℕ) → List LineFields → List ℕ → TableColumn
gathered_column objective rows lines name =
    record {
      name = name;
      bounds = ZeroOrOne;
      cost = number_beside (column_pairs lines name) (unwrap_or objective []);
      entries =
          entries_at 0 (number_beside (column_pairs lines name)) rows;
    }

-- the columns that are held are those that the lines of COLUMNS and BOUNDS describe
pub record ColumnsTell (objective : Option (List ℕ)) (rows : List (List ℕ)) (lines bounds : List LineFields) (c : ColumnTable) : Type 0 where
  pub names : names_of c.names ≡ columns_named lines
  pub begun : c.is_begun ≡ is_integer_open lines
  pub states : map state_values c.states.items ≡ map (parsed_values lines bounds) (columns_named lines)
  pub done : AllByRecursion (λ k. k ≡ gathered_column objective rows lines k.name) c.done
  pub opened : IfSome c.current (λ name. HoldsNumbers objective rows (number_beside (column_pairs lines name.now)) c.current_column)
  pub closed : is_some c.current ≡ false → c.current_column.cost ≡ pos 0

-- whether the name is that of the current column
abbrev pub is_current : Option (Bor (List ℕ)) → List ℕ → Bool
is_current current name = option_map_or (λ other. bytes_eq name other.now) current false

-- the columns of the lines so far, and one more that no line has named yet
pub record ColumnAdded (objective : Option (List ℕ)) (rows : List (List ℕ)) (lines : List LineFields) (name : List ℕ) (c : ColumnTable) : Type 0 where
  pub fresh : list_any (bytes_eq name) (columns_named lines) ≡ false
  pub all : names_of c.names ≡ columns_named lines ++ name ∷ []
  pub begun : c.is_begun ≡ is_integer_open lines
  pub states : map state_values c.states.items ≡ map (parsed_values lines []) (columns_named lines) ++ (is_integer_open lines, pos 0, None) ∷ []
  pub done : AllByRecursion (λ k. k ≡ gathered_column objective rows lines k.name) c.done
  pub cost : c.current_column.cost ≡ pos 0
  pub entries : c.current_column.entries.items ≡ []

-- the data lines of each section, the last one first
pub record DataLines : Type 0 where
  pub rows : List LineFields
  pub columns : List LineFields
  pub right_sides : List LineFields
  pub bounds : List LineFields

-- the gathered data lines, without the section that is open
abbrev pub data_lines : Sections → DataLines
data_lines s = record { rows = s.rows; columns = s.columns; right_sides = s.right_sides; bounds = s.bounds }

-- in ROWS: no line of a later section has been read, and no stamp is above the number of columns
pub record InRows (lines : DataLines) (r : Rows) (c : ColumnTable) : Type 0 where
  pub no_columns : lines.columns ≡ []
  pub no_rights : lines.right_sides ≡ []
  pub no_bounds : lines.bounds ≡ []
  pub low : AreStampsUpTo (length (names_of c.names)) r

-- before ROWS: no line of that section or a later one has been read, and no stamp is above the number of columns
pub record BeforeRows (lines : DataLines) (r : Rows) (c : ColumnTable) : Type 0 where
  pub no_rows : lines.rows ≡ []
  pub after : InRows lines r c

-- in COLUMNS: no line of a later section has been read, no stamp is above the number of columns, and the current column is that of the line
-- before; the rows that have its stamp are those that its lines have named
pub record InColumns (lines : DataLines) (r : Rows) (c : ColumnTable) : Type 0 where
  pub no_rights : lines.right_sides ≡ []
  pub no_bounds : lines.bounds ≡ []
  pub low : AreStampsUpTo (length (names_of c.names)) r
  pub current : option_now c.current ≡ nearest_column lines.columns
  pub stamps : IfSome c.current (λ name. StampsAre r.stamps.items (length (names_of c.names)) (names_of r.names)
      (λ row. list_any (λ other. bytes_eq row other.0) (column_pairs lines.columns name.now)))

-- in RHS: no line of BOUNDS has been read, and the rows that have its stamp are those that a right side has named
pub record InRightSides (lines : DataLines) (r : Rows) (c : ColumnTable) : Type 0 where
  pub no_bounds : lines.bounds ≡ []
  pub stamps : StampsAre r.stamps.items (length (names_of c.names) + 1) (names_of r.names)
      (λ row. list_any (λ other. bytes_eq row other.0) (flat_map line_right_sides lines.right_sides))

-- while a section is open: what holds of the lines of all sections and of the rows and columns that are held
abbrev pub IsAt : Section → DataLines → Rows → ColumnTable → Type 0
IsAt sections.Start lines r c = BeforeRows lines r c
IsAt sections.Name lines r c = BeforeRows lines r c
IsAt sections.Sense lines r c = BeforeRows lines r c
IsAt sections.Rows lines r c = InRows lines r c
IsAt sections.Columns lines r c = InColumns lines r c
IsAt sections.RightSides lines r c = InRightSides lines r c
IsAt sections.Bounds lines r c = Unit {0}
IsAt sections.End lines r c = Unit {0}

-- a reading holds what the data lines of each section say
pub record LinesTell (lines : DataLines) (r : Reading) : Type 0 where
  pub of_rows : RowsTell lines.rows lines.right_sides r.rows
  pub of_columns : ColumnsTell (option_now r.rows.objective) (declared_row_names r.rows.rows.items) lines.columns lines.bounds r.columns
  pub of_section : IsAt r.section lines r.rows r.columns

-- a reading has open the section that the lines before have opened, and holds what their data lines say
pub record ReadingTells (before : Sections) (r : Reading) : Type 0 where
  pub section : before.section ≡ word_of r.section
  pub lines : LinesTell (data_lines before) r
