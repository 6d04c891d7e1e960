-- What the lines of BOUNDS say of the columns.
use Rattle.std.proofs.Common.{◌≡◌, ℕ, Bool, true, false, cond, ◌&&◌, List, [], ◌∷◌, map, refl, ◌∙◌, Some, None}
use Rattle.std.specs.Prelude.{bytes_eq, codes, find, pos, if◌then◌else◌, unwrap_or}
use Rattle.std.specs.List.{AllByRecursion, IsDistinct}
use Rattle.program_rows.specs.declared.column.Bounds.{Bounds}
use Rattle.program_rows.specs.declared.column.Bounds.TheVariants.{ZeroOrOne, Zero, One}
use Rattle.program_rows.specs.Program.{TableColumn}
use Rattle.auction_terms.specs.LineFields.{LineFields, field}
use Rattle.program_rows.specs.MpsSections.{Sections}
use Rattle.program_rows.specs.MpsProgram.{is_one_of, lower, upper, bound_pair}
use Rattle.program_rows.specs.MpsFaults.{is_binary, stands_in_integers}
use Rattle.auction_terms.specs.Decimals.{number}
use Rattle.mps_text.specs.Text.{bound_words}
use Rattle.program_rows.proofs.NamedItemFacts.{bytes_flip}
use Rattle.program_rows.proofs.EachFacts.{each}
use Rattle.mps_text.proofs.ColumnPhaseFacts.{same-name}
use Rattle.mps_text.proofs.PushedFacts.{push}
use Rattle.std.specs.Ordering.{int_eq}
use Rattle.mps_text.proofs.FieldFacts.{bound_fields}

-- whether a line sets a bound of one of these types on a column
abbrev pub sets : List (List ℕ) → List ℕ → LineFields → Bool
sets types column fields = is_one_of (field 0 fields) types && bytes_eq column (field 0 (bound_pair fields))

named-column : (c : TableColumn) (b : Bounds) → field 0 (bound_pair ((bound_words b).0 ∷ codes "BND" ∷ c.name ∷ (bound_words b).1 ∷ [])) ≡ c.name
named-column c ZeroOrOne = refl
named-column c Zero = refl
named-column c One = refl

other-bound : (types : List (List ℕ)) (name : List ℕ) (c : TableColumn) (before : List LineFields) → bytes_eq name c.name ≡ false
    → find (sets types name) (bound_fields c ∷ before) ≡ find (sets types name) before
other-bound types name c before d = rw (named-column c c.bounds, d)
    (elim (is_one_of ((bound_words c.bounds).0) types) as (λ b. cond (b && false) (Some (bound_fields c)) (find (sets types name) before) ≡
    find (sets types name) before) [ true ↦ refl | false ↦ refl ])

other-bounds : (types : List (List ℕ)) (name : List ℕ) (cs : List TableColumn) (before : List LineFields)
    → AllByRecursion (λ other. bytes_eq name other ≡ false) (map (λ c. c.name) cs)
    → find (sets types name) (push (map bound_fields cs) before) ≡ find (sets types name) before
other-bounds types name [] before d = refl
other-bounds types name (c ∷ cs) before d = other-bounds types name cs (bound_fields c ∷ before) d.1 ∙ other-bound types name c before d.0

abbrev AreUnset : List (List ℕ) → List LineFields → List TableColumn → Type 0
AreUnset types before cs = AllByRecursion (λ c. find (sets types c.name) before ≡ None) cs

still_unset : (types : List (List ℕ)) (c : TableColumn) (before : List LineFields) (cs : List TableColumn)
    → AllByRecursion (λ other. bytes_eq c.name other ≡ false) (map (λ q. q.name) cs) → AreUnset types before cs
    → AreUnset types (bound_fields c ∷ before) cs
still_unset types c before [] d h = tt
still_unset types c before (q ∷ cs) d h = (other-bound types q.name c before (bytes_flip c.name q.name d.0) ∙ h.0, still_unset types c before cs d.1 h.1)

own-bound : (types : List (List ℕ)) (c : TableColumn) (before : List LineFields) → find (sets types c.name) before ≡ None
    → find (sets types c.name) (bound_fields c ∷ before) ≡ find (sets types c.name) (bound_fields c ∷ [])
own-bound types c before h = rw h refl

-- the last bound on a column is its one line
pub bounds-found : (types : List (List ℕ)) (cs : List TableColumn) (before : List LineFields) → IsDistinct bytes_eq (map (λ c. c.name) cs)
    → AreUnset types before cs
    → AllByRecursion (λ c. find (sets types c.name) (push (map bound_fields cs) before) ≡ find (sets types c.name) (bound_fields c ∷ [])) cs
unfolding IsDistinct
bounds-found types [] before d h = tt
bounds-found types (c ∷ cs) before d h = (
  other-bounds types c.name cs (bound_fields c ∷ before) d.0 ∙ own-bound types c before h.0,
  bounds-found types cs (bound_fields c ∷ before) d.1 (still_unset types c before cs d.0 h.1),
)

pub none-set : (types : List (List ℕ)) (cs : List TableColumn) → AreUnset types [] cs
none-set types cs = each _ cs (λ c. refl)

abbrev pub lower_types : List (List ℕ)
lower_types = codes "LO" ∷ codes "FX" ∷ codes "BV" ∷ []

abbrev pub upper_types : List (List ℕ)
upper_types = codes "UP" ∷ codes "FX" ∷ codes "BV" ∷ []

abbrev pub line_for : List ℕ → Bounds → LineFields
line_for name b = (bound_words b).0 ∷ codes "BND" ∷ name ∷ (bound_words b).1 ∷ []

-- the bounds of a column come back
pub bounds-back : (before : Sections) (name : List ℕ) (b : Bounds)
    → find (sets lower_types name) before.bounds ≡ find (sets lower_types name) (line_for name b ∷ [])
    → find (sets upper_types name) before.bounds ≡ find (sets upper_types name) (line_for name b ∷ [])
    → (if int_eq (lower before.bounds name) (pos 1) then One else
    (if int_eq (unwrap_or (upper before.bounds name) (pos 1)) (pos 0) then Zero else ZeroOrOne)) ≡ b
unfolding number
bounds-back before name ZeroOrOne low high = rw (low, high, same-name name) refl
bounds-back before name Zero low high = rw (low, high, same-name name) refl
bounds-back before name One low high = rw (low, high, same-name name) refl

pub binary-back : (before : Sections) (name : List ℕ) (b : Bounds) → stands_in_integers name before.columns ≡ true
    → find (sets lower_types name) before.bounds ≡ find (sets lower_types name) (line_for name b ∷ [])
    → find (sets upper_types name) before.bounds ≡ find (sets upper_types name) (line_for name b ∷ []) → is_binary before name ≡ true
unfolding number
binary-back before name ZeroOrOne stands low high = rw (stands, low, high, same-name name) refl
binary-back before name Zero stands low high = rw (stands, low, high, same-name name) refl
binary-back before name One stands low high = rw (stands, low, high, same-name name) refl
