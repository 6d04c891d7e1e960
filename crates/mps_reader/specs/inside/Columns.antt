-- The columns that the code holds.
use Rattle.std.specs.Prelude.{◌≡◌, ℕ, suc, ◌<◌, Bool, true, false, ◌==◌, List, [], ◌∷◌, ◌++◌, length, map, slice_get}
use Rattle.std.specs.Prelude.{Option, Some, None, is_some, ℤ, pos, bytes_eq, ◌≢◌, if◌then◌else◌}
use Rattle.std.specs.Ordering.{int_eq}
use Rattle.std.specs.List.{AllByRecursion, IsDistinct, list_any}
use Rattle.std.specs.Option.{option_to_list}
use Rattle.program_rows.specs.Parts.{IsName, AreEntries}
use Rattle.auction_terms.specs.LineFields.{LineFields, field}
use Rattle.program_rows.specs.MpsProgram.{is_marker}
use Rattle.mps_reader.specs.inside.Rows.{names_of, option_now}
use Rattle.mps_reader.specs.declared.tables.OpenColumn.{OpenColumn}
use Rattle.mps_reader.specs.declared.tables.ColumnTable.{ColumnTable}
use Rattle.mps_reader.specs.declared.tables.Rows.{Rows}

-- whether two entries are of the same row
abbrev pub same_place : ℕ × ℤ → ℕ × ℤ → Bool
same_place a b = a.0 == b.0

-- places of rows, each once, and none with 0
pub record AreDistinctEntries (count : ℕ) (entries : List (ℕ × ℤ)) : Type 0 where
  pub distinct : IsDistinct same_place entries
  pub inside : AllByRecursion (λ e. (e.0 < count) × (e.1 ≢ pos 0)) entries

-- a row without the stamp has no entry
abbrev pub IsApart : List ℕ → List (Option ℕ) → ℕ → List (ℕ × ℤ) → Type 0
IsApart stamps places stamp entries =
    (i p d : ℕ) → slice_get places i ≡ Some (Some p) → slice_get stamps i ≡ Some d → (d == stamp) ≡ false → AllByRecursion (λ e. (e.0 == p) ≡ false) entries

-- the columns that are held are sound: their names are legal and differ, each has a state, and their entries are of rows that exist
pub record ColumnsFit (count : ℕ) (c : ColumnTable) : Type 0 where
  pub distinct : IsDistinct bytes_eq (names_of c.names)
  pub plain : AllByRecursion IsName (names_of c.names)
  pub states : length c.states.items ≡ length c.names.keys
  pub done : names_of c.names ≡ map (λ k. k.name) c.done ++ option_to_list (option_now c.current)
  pub entries : AllByRecursion (λ k. AreEntries count k.entries) c.done
  pub opened : AreDistinctEntries count c.current_column.entries.items
  pub closed : is_some c.current ≡ false → c.current_column.entries.items ≡ []

-- a column more, which is the current one
pub record AddsColumn (name : List ℕ) (old new : ColumnTable) : Type 0 where
  pub fresh : list_any (bytes_eq name) (names_of old.names) ≡ false
  pub names : names_of new.names ≡ names_of old.names ++ name ∷ []
  pub distinct : IsDistinct bytes_eq (names_of new.names)
  pub states : new.states.items ≡ old.states.items ++ record { is_integer = old.is_begun; lower = false; upper = None } ∷ []
  pub done : new.done ≡ old.done
  pub current : option_now new.current ≡ Some name
  pub opened : new.current_column ≡ old.current_column
  pub begun : new.is_begun ≡ old.is_begun

-- the entries with one more, unless that is the cost, of a free row, or 0
abbrev pub put_entries : Bool → Option ℕ → ℤ → List (ℕ × ℤ) → List (ℕ × ℤ)
put_entries true place value entries = entries
put_entries false None value entries = entries
put_entries false (Some p) value entries = if int_eq value (pos 0) then entries else entries ++ (p, value) ∷ []

-- the entries of the current column, whose stamp this is, are of rows that have the stamp
pub record PairsFit (stamp : ℕ) (r : Rows) (column : OpenColumn) : Type 0 where
  pub entries : AreDistinctEntries (length r.rows.items) column.entries.items
  pub apart : IsApart r.stamps.items r.places.items stamp column.entries.items

-- the columns fit to the rows
pub record BothFit (r : Rows) (c : ColumnTable) : Type 0 where
  pub columns : ColumnsFit (length r.rows.items) c
  pub apart : IsApart r.stamps.items r.places.items (length (names_of c.names)) c.current_column.entries.items

-- no column has been read, and no marker has begun integers
pub record IsEmptyColumns (c : ColumnTable) : Type 0 where
  pub names : c.names.keys ≡ []
  pub states : c.states.items ≡ []
  pub done : c.done ≡ []
  pub current : c.current ≡ None
  pub cost : c.current_column.cost ≡ pos 0
  pub entries : c.current_column.entries.items ≡ []
  pub begun : c.is_begun ≡ false

-- ---- what the lines of COLUMNS say

-- the numbers of rows that are not 0, from a place on
abbrev pub entries_at : ℕ → (List ℕ → ℤ) → List (List ℕ) → List (ℕ × ℤ)
entries_at place number [] = []
entries_at place number (row ∷ rows) =
    if int_eq (number row) (pos 0) then entries_at (suc place) number rows else (place, number row) ∷ entries_at (suc place) number rows

-- the column of the nearest line, unless that is a marker
abbrev pub nearest_column : List LineFields → Option (List ℕ)
nearest_column [] = None
nearest_column (fields ∷ before) = if is_marker fields then None else Some (field 0 fields)
