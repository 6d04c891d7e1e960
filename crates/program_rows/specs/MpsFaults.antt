-- The faults of an MPS text: what a line may not say, given the lines before it. Checks are in the order in which they are reported.
use Rattle.std.specs.Prelude.{ℕ, ◌+◌, drop, Bool, false, not, ◌||◌, ◌&&◌, nat_lt, nat_le, List, [], ◌∷◌, length, ◌==◌}
use Rattle.std.specs.Prelude.{if◌then◌else◌, pos, Option, Some, None, codes, bytes_eq, position, find, flat_map, is_none}
use Rattle.std.specs.Prelude.{slice_get, option_map, int_lt, ℤ, Result, Ok, Err}
use Rattle.std.specs.List.{list_any}
use Rattle.std.specs.Option.{option_map_or, option_or}
use Rattle.std.specs.Ordering.{int_eq}
use Rattle.auction_terms.specs.LineFields.{LineFields, field}
use Rattle.program_rows.specs.MpsLines.{Line, Skipped, Unprintable, Header, Data}
use Rattle.auction_terms.specs.declared.decimals.NumberFault.{NumberFault}
use Rattle.auction_terms.specs.declared.decimals.NumberFault.TheVariants as numbers
use Rattle.auction_terms.specs.Decimals.{number}
use Rattle.program_rows.specs.MpsSections.{Sections}
use Rattle.program_rows.specs.MpsProgram.{is_one_of, value, pairs, line_right_sides, first_free, is_marker, is_column}
use Rattle.program_rows.specs.MpsProgram.{columns_named, column_pairs, is_binary_bound, bound_pair, lower, upper}
use Rattle.program_rows.specs.declared.mps_fault_kind.MpsFaultKind.{MpsFaultKind}
use Rattle.program_rows.specs.declared.mps_fault_kind.MpsFaultKind.TheVariants.{NotText, Section, SectionLeftOut, Fields}
use Rattle.program_rows.specs.declared.mps_fault_kind.MpsFaultKind.TheVariants.{RowType, RowRepeated, NoObjective}
use Rattle.program_rows.specs.declared.mps_fault_kind.MpsFaultKind.TheVariants.{UnknownRow, ColumnSplit, EntryRepeated}
use Rattle.program_rows.specs.declared.mps_fault_kind.MpsFaultKind.TheVariants.{NumberText, NotWhole, NumberRange, Marker}
use Rattle.program_rows.specs.declared.mps_fault_kind.MpsFaultKind.TheVariants.{UnknownColumn, BoundType, BoundValue}
use Rattle.program_rows.specs.declared.mps_fault_kind.MpsFaultKind.TheVariants.{ObjectiveConstant, SenseMax, NotBinary}
use Rattle.std.specs.Bool.{then_some as when}

-- the first fault of a list of checks
abbrev pub earliest_fault : List (Option MpsFaultKind) → Option MpsFaultKind
earliest_fault [] = None
earliest_fault (check ∷ checks) = option_or check (earliest_fault checks)

-- the fault of a token that is no number
abbrev pub number_fault : Result ℤ NumberFault → Option MpsFaultKind
number_fault (Ok n) = None
number_fault (Err numbers.NumberText) = Some NumberText
number_fault (Err numbers.NumberRange) = Some NumberRange
number_fault (Err numbers.NotWhole) = Some NotWhole

-- ---- headers

-- sections of other MPS texts, which are not read
abbrev pub sections_left_out : List (List ℕ)
sections_left_out = codes "RANGES" ∷ codes "SOS" ∷ codes "SOS1" ∷ codes "SOS2" ∷ codes "QUADOBJ" ∷ codes "QMATRIX" ∷ codes "QSECTION" ∷
    codes "QCMATRIX" ∷ codes "INDICATORS" ∷ []

-- the place of a section in the only order that is allowed, from 1; 0 if it isn't one of them
abbrev pub place_of : List ℕ → ℕ
place_of word = option_map_or (λ i. i + 1) (position (bytes_eq word) (
    codes "NAME" ∷ codes "OBJSENSE" ∷ codes "ROWS" ∷ codes "COLUMNS" ∷ codes "RHS" ∷ codes "BOUNDS" ∷ codes "ENDATA" ∷ [])) 0

-- an objective is minimised
abbrev pub sense_fault : LineFields → Option MpsFaultKind
sense_fault fields = earliest_fault (
    when (not (length fields == 1)) Fields
    ∷ when (is_one_of (field 0 fields) (codes "MAX" ∷ codes "MAXIMIZE" ∷ [])) SenseMax
    ∷ when (not (is_one_of (field 0 fields) (codes "MIN" ∷ codes "MINIMIZE" ∷ []))) Fields ∷ [])

-- whether the nearest marker is 'INTORG'
abbrev pub is_integer_open : List LineFields → Bool
is_integer_open lines = option_map_or (λ marker. bytes_eq (field 2 marker) (codes "'INTORG'")) (find is_marker lines) false

-- whether the last line of a column comes after an open 'INTORG'
abbrev pub stands_in_integers : List ℕ → List LineFields → Bool
stands_in_integers column [] = false
stands_in_integers column (fields ∷ before) =
    if not (is_marker fields) && bytes_eq column (field 0 fields) then is_integer_open before else stands_in_integers column before

-- an integer, by markers or by a bound BV, with an upper bound that is not below the lower one
abbrev pub is_binary : Sections → List ℕ → Bool
is_binary s column =
    (stands_in_integers column s.columns || list_any (λ fields. is_binary_bound fields && bytes_eq column (field 0 (bound_pair fields))) s.bounds)
    && option_map_or (λ high. not (int_lt high (lower s.bounds column))) (upper s.bounds column) false

-- a header; the last one checks that each column is binary
abbrev pub header_fault : Sections → List ℕ → LineFields → Option MpsFaultKind
header_fault s word more = earliest_fault (
    when (is_one_of word sections_left_out) SectionLeftOut
    ∷ when (not (nat_lt (place_of s.section) (place_of word))) Section
    ∷ when (is_one_of word (codes "ROWS" ∷ codes "COLUMNS" ∷ codes "RHS" ∷ codes "BOUNDS" ∷ []) && nat_lt 0 (length more)) Fields
    ∷ (if bytes_eq word (codes "OBJSENSE") && nat_lt 0 (length more) then sense_fault more else None)
    ∷ when (is_one_of word (codes "COLUMNS" ∷ codes "RHS" ∷ codes "BOUNDS" ∷ codes "ENDATA" ∷ []) && is_none (first_free s.rows)) NoObjective
    ∷ (if bytes_eq word (codes "ENDATA") then option_map NotBinary (position (λ column. not (is_binary s column)) (columns_named s.columns)) else None) ∷ [])

-- ---- data lines, section by section

-- whether a line of ROWS has the name
abbrev pub is_declared : List LineFields → List ℕ → Bool
is_declared rows name = list_any (λ row. bytes_eq name (field 1 row)) rows

-- the fault of a line of ROWS: a wrong number of fields, an unknown type, or a name that a line before it has
abbrev pub row_fault : List LineFields → LineFields → Option MpsFaultKind
row_fault rows fields = earliest_fault (
    when (not (length fields == 2)) Fields
    ∷ when (not (is_one_of (field 0 fields) (codes "N" ∷ codes "L" ∷ codes "G" ∷ codes "E" ∷ []))) RowType
    ∷ when (is_declared rows (field 1 fields)) RowRepeated ∷ [])

-- 'INTORG' and 'INTEND' take turns
abbrev pub marker_fault : List LineFields → LineFields → Option MpsFaultKind
marker_fault columns fields = when (not (length fields == 3 && bytes_eq (field 2 fields)
    (if is_integer_open columns then codes "'INTEND'" else codes "'INTORG'"))) Marker

-- the column was named before, and the line before this one names another or is a marker
abbrev pub is_split : List LineFields → List ℕ → Bool
is_split columns name = is_column columns name && option_map_or (λ nearest. is_marker nearest || not (bytes_eq name (field 0 nearest)))
    (slice_get columns 0) false

-- the pairs of a line after earlier ones; if an objective is given, its number has to be 0
abbrev pub pairs_fault : List LineFields → Option (List ℕ) → List (List ℕ × List ℕ) → List (List ℕ × List ℕ) → Option MpsFaultKind
pairs_fault rows objective earlier [] = None
pairs_fault rows objective earlier (pair ∷ more) = earliest_fault (
    when (not (is_declared rows pair.0)) UnknownRow
    ∷ when (list_any (λ other. bytes_eq pair.0 other.0) earlier) EntryRepeated
    ∷ number_fault (number pair.1)
    ∷ when (option_map_or (bytes_eq pair.0) objective false && not (int_eq (value pair.1) (pos 0))) ObjectiveConstant
    ∷ pairs_fault rows objective (pair ∷ earlier) more ∷ [])

-- the fault of a line of COLUMNS: a wrong number of fields, a marker out of turn, a column in two runs of lines, or a faulty pair
abbrev pub column_fault : Sections → LineFields → Option MpsFaultKind
column_fault s fields = earliest_fault (
    when (not ((length fields == 3) || (length fields == 5))) Fields
    ∷ (if is_marker fields then marker_fault s.columns fields else option_or (when (is_split s.columns (field 0 fields)) ColumnSplit)
    (pairs_fault s.rows None (column_pairs s.columns (field 0 fields)) (pairs (drop 1 fields)))) ∷ [])

-- the fault of a line of RHS: a wrong number of fields, or a faulty pair of a row and its right side
abbrev pub right_side_fault : Sections → LineFields → Option MpsFaultKind
right_side_fault s fields = earliest_fault (
    when (not (nat_le 2 (length fields) && nat_le (length fields) 5)) Fields
    ∷ pairs_fault s.rows (first_free s.rows) (flat_map line_right_sides s.right_sides) (line_right_sides fields) ∷ [])

-- a bound is 0 or 1
abbrev pub bound_fault : List LineFields → LineFields → Option MpsFaultKind
bound_fault columns fields = earliest_fault (
    when (not (is_one_of (field 0 fields) (codes "UP" ∷ codes "LO" ∷ codes "FX" ∷ codes "BV" ∷ []))) BoundType
    ∷ when (not (if is_binary_bound fields then nat_le 2 (length fields) && nat_le (length fields) 4 else nat_le 3 (length fields) && nat_le
    (length fields) 4)) Fields
    ∷ when (not (is_column columns (field 0 (bound_pair fields)))) UnknownColumn
    ∷ (if is_binary_bound fields then None else option_or (number_fault (number (field 1 (bound_pair fields))))
    (when (not (int_eq (value (field 1 (bound_pair fields))) (pos 0) || int_eq (value (field 1 (bound_pair fields))) (pos 1))) BoundValue)) ∷ [])

-- the fault of a line, given the lines gathered before it: a data line's by the section that is open
unfoldable pub fault : Sections → Line → Option MpsFaultKind
fault s Skipped = None
fault s Unprintable = Some NotText
fault s (Header word more) = header_fault s word more
fault s (Data fields) =
    if bytes_eq s.section (codes "OBJSENSE") then sense_fault fields
    else (if bytes_eq s.section (codes "ROWS") then row_fault s.rows fields
    else (if bytes_eq s.section (codes "COLUMNS") then column_fault s fields
    else (if bytes_eq s.section (codes "RHS") then right_side_fault s fields
    else (if bytes_eq s.section (codes "BOUNDS") then bound_fault s.columns fields
    else Some Section))))
