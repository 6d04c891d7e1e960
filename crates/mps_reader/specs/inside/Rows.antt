-- The rows that the code holds.
use Rattle.std.specs.Prelude.{◌≡◌, ℕ, zero, suc, Bool, true, false, not, ◌&&◌, ◌==◌, filter, reverse, List, [], ◌∷◌, ◌++◌}
use Rattle.std.specs.Prelude.{length, map, bytes_eq, Option, Some, None, IfSome, ℤ, pos, is_none, if◌then◌else◌}
use Rattle.std.specs.List.{AllByRecursion, IsDistinct, list_any}
use Rattle.std.specs.Option.{option_map}
use Rattle.std.specs.Ordering.{int_eq}
use denote.Ref.{Bor}
use Rattle.indexmap.specs.IndexSet.{IndexSet}
use Rattle.program_rows.specs.declared.name_set.Seeded.{Seeded}
use Rattle.program_rows.specs.declared.row.Row.{Row}
use Rattle.program_rows.specs.Program.{TableRow}
use Rattle.program_rows.specs.Parts.{IsName, shown_row}
use Rattle.auction_terms.specs.LineFields.{LineFields, field}
use Rattle.program_rows.specs.MpsProgram.{is_free, row_kind_of, value}
use Rattle.program_rows.specs.MpsFaults.{earliest_fault, number_fault}
use Rattle.program_rows.specs.declared.mps_fault_kind.MpsFaultKind.{MpsFaultKind}
use Rattle.program_rows.specs.declared.mps_fault_kind.MpsFaultKind.TheVariants.{UnknownRow, EntryRepeated, ObjectiveConstant}
use Rattle.auction_terms.specs.Lines.{bytes_of}
use Rattle.mps_reader.specs.declared.tables.Rows.{Rows}
use Rattle.auction_terms.specs.Decimals.{number as token_number}
use Rattle.std.specs.Bool.{then_some as when}

-- a set of names, in the order in which they were added
abbrev pub NameSet : Type 0
NameSet = IndexSet (Bor (List ℕ)) Seeded

-- the names of a set, in order
abbrev pub names_of : NameSet → List (List ℕ)
names_of s = bytes_of s.keys

-- the names of the rows that the code holds, in their order
abbrev pub declared_row_names : List Row → List (List ℕ)
declared_row_names rows = map (λ r. r.name.items) rows

-- the names that have places are those of the rows, whose places rise from p
abbrev pub AreAt : ℕ → List (List ℕ) → List (Option ℕ) → List (List ℕ) → Type 0
AreAt p [] [] [] = Unit {0}
AreAt p (n ∷ ns) (None ∷ ps) rows = AreAt p ns ps rows
AreAt p (n ∷ ns) (Some q ∷ ps) (r ∷ rows) = (q ≡ p) × (r ≡ n) × AreAt (suc p) ns ps rows
AreAt p _ _ _ = ⊥

-- the objective is one of the names, and no row
pub record IsObjective (names rows : List (List ℕ)) (objective : List ℕ) : Type 0 where
  pub known : list_any (bytes_eq objective) names ≡ true
  pub name : IsName objective
  pub apart : AllByRecursion (λ r. bytes_eq objective r ≡ false) rows

-- the rows that are held are sound: their names are legal and differ, each has a stamp and, unless it is free, a place, and the objective is no row
pub record RowsFit (r : Rows) : Type 0 where
  pub distinct : IsDistinct bytes_eq (names_of r.names)
  pub plain : AllByRecursion IsName (names_of r.names)
  pub stamps : length r.stamps.items ≡ length r.names.keys
  pub places : AreAt 0 (names_of r.names) r.places.items (declared_row_names r.rows.items)
  pub objective : IfSome r.objective (λ o. IsObjective (names_of r.names) (declared_row_names r.rows.items) o.now)

-- the bytes of a name that is borrowed, if there is one
abbrev pub option_now : Option (Bor (List ℕ)) → Option (List ℕ)
option_now o = option_map (λ n. n.now) o

-- the row whose name was added last is free
pub record AddsFree (name : List ℕ) (old new : Rows) : Type 0 where
  pub names : new.names ≡ old.names
  pub places : new.places.items ≡ old.places.items ++ None ∷ []
  pub stamps : new.stamps.items ≡ old.stamps.items ++ 0 ∷ []
  pub rows : new.rows ≡ old.rows
  pub objective : option_now new.objective ≡ (if is_none old.objective then Some name else option_now old.objective)

-- the row whose name was added last is not
pub record AddsBound (letter name : List ℕ) (old new : Rows) : Type 0 where
  pub names : new.names ≡ old.names
  pub places : new.places.items ≡ old.places.items ++ Some (length old.rows.items) ∷ []
  pub stamps : new.stamps.items ≡ old.stamps.items ++ 0 ∷ []
  pub rows : map shown_row new.rows.items ≡ map shown_row old.rows.items ++ record { name = name; kind = row_kind_of letter; right_side = pos 0 } ∷ []
  pub objective : new.objective ≡ old.objective

-- the names that have the stamp
abbrev pub StampsAre : List ℕ → ℕ → List (List ℕ) → (List ℕ → Bool) → Type 0
StampsAre stamps stamp names has = map (λ s. s == stamp) stamps ≡ map has names

-- no row has been read, and so there is no objective
pub record IsEmptyTable (r : Rows) : Type 0 where
  pub names : r.names.keys ≡ []
  pub places : r.places.items ≡ []
  pub stamps : r.stamps.items ≡ []
  pub rows : r.rows.items ≡ []
  pub objective : r.objective ≡ None

-- the rows with another right side at a place
abbrev pub with_side : ℕ → ℤ → List TableRow → List TableRow
with_side place side [] = []
with_side zero side (r ∷ rows) = record r { right_side = side } ∷ rows
with_side (suc place) side (r ∷ rows) = r ∷ with_side place side rows

-- ---- what the lines of ROWS and RHS say

-- the names that the lines of ROWS declare, in the order of the text
abbrev pub declared_names : List LineFields → List (List ℕ)
declared_names rows = map (field 1) (reverse rows)

-- the lines of the rows that are not free
abbrev pub bound_lines_of : List LineFields → List LineFields
bound_lines_of rows = filter (λ fields. not (is_free fields)) (reverse rows)

-- rows with these right sides
abbrev pub rows_by : (List ℕ → ℤ) → List LineFields → List TableRow
rows_by side lines = map (λ fields. record { name = field 1 fields; kind = row_kind_of (field 0 fields); right_side = side (field 1 fields) }) lines

-- the checks of a pair, whose row is known or not, repeated or not, and the objective or not
abbrev pub side_fault : Bool → Bool → Bool → List ℕ → Option MpsFaultKind
side_fault known repeated cost number =
    earliest_fault (when (not known) UnknownRow ∷ when repeated EntryRepeated ∷ number_fault (token_number number)
    ∷ when (cost && not (int_eq (value number) (pos 0))) ObjectiveConstant ∷ [])
