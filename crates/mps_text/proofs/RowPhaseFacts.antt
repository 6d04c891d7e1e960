-- The lines of ROWS are read without a fault.
use Rattle.std.proofs.Common.{◌≡◌, ℕ, true, false, not, List, [], ◌∷◌, map, refl, None}
use Rattle.std.specs.Prelude.{bytes_eq, codes, filter}
use Rattle.std.specs.List.{AllByRecursion, IsDistinct}
use Rattle.program_rows.specs.declared.row.RowKind.{RowKind}
use Rattle.program_rows.specs.declared.row.RowKind.TheVariants.{AtMost, AtLeast, Equal}
use Rattle.program_rows.specs.Program.{TableRow}
use Rattle.program_rows.specs.MpsLines.{Data}
use Rattle.program_rows.specs.MpsSections.{Sections, with_line}
use Rattle.program_rows.specs.MpsProgram.{is_one_of, is_free, row_kind_of}
use Rattle.program_rows.specs.MpsFaults.{fault, is_declared}
use Rattle.mps_text.specs.Text.{kind_letter}
use Rattle.program_rows.proofs.NamedItemFacts.{bytes_flip}
use Rattle.mps_text.proofs.BlockFacts.{AreRead}
use Rattle.mps_text.proofs.FieldFacts.{row_fields}

is_type : (k : RowKind) → is_one_of (kind_letter k) (codes "N" ∷ codes "L" ∷ codes "G" ∷ codes "E" ∷ []) ≡ true
is_type AtMost = refl
is_type AtLeast = refl
is_type Equal = refl

-- a row whose name is new
pub row-read : (before : Sections) (r : TableRow) → before.section ≡ codes "ROWS" → is_declared before.rows r.name ≡ false
    → fault before (Data (row_fields r)) ≡ None
unfolding fault
row-read before r s new = rw (s, is_type r.kind, new) refl

abbrev pub AreNew : Sections → List (List ℕ) → Type 0
AreNew before names = AllByRecursion (λ name. is_declared before.rows name ≡ false) names

-- what holds of the items with other names than this one
pub others_kept : {X : Type 0} (name_of : X → List ℕ) (name : List ℕ) (P Q : X → Type 0) (xs : List X)
    → ((x : X) → bytes_eq name (name_of x) ≡ false → P x → Q x) → AllByRecursion (λ other. bytes_eq name other ≡ false) (map name_of xs)
    → AllByRecursion P xs → AllByRecursion Q xs
others_kept name_of name P Q [] keep d h = tt
others_kept name_of name P Q (x ∷ xs) keep d h = (keep x d.0 h.0, others_kept name_of name P Q xs keep d.1 h.1)

-- names that are new, and differ from the one that is declared now, stay new
still_new : (before : Sections) (r : TableRow) (names : List (List ℕ)) → before.section ≡ codes "ROWS" → AreNew before names
    → AllByRecursion (λ name. bytes_eq r.name name ≡ false) names → AreNew (with_line before (Data (row_fields r))) names
still_new before r [] s new differ = tt
still_new before r (name ∷ names) s new differ = (rw (s, bytes_flip r.name name differ.0, new.0) refl, still_new before r names s new.1 differ.1)

pub rows-read : (before : Sections) (rows : List TableRow) → before.section ≡ codes "ROWS" → AreNew before (map (λ r. r.name) rows)
    → IsDistinct bytes_eq (map (λ r. r.name) rows) → AreRead before (map Data (map row_fields rows))
unfolding IsDistinct
rows-read before [] s new differ = tt
rows-read before (r ∷ rows) s new differ = (
  row-read before r s new.0,
  refl,
  rows-read (with_line before (Data (row_fields r))) rows s (still_new before r (map (λ q. q.name) rows)
      s new.1 differ.0) differ.1,
)

-- ---- what the lines of ROWS and RHS say of the program

pub type_is : (k : RowKind) → (bytes_eq (kind_letter k) (codes "N") ≡ false) × (row_kind_of (kind_letter k) ≡ k)
type_is AtMost = (refl, refl)
type_is AtLeast = (refl, refl)
type_is Equal = (refl, refl)

pub bound_rows : (rows : List TableRow) → filter (λ fields. not (is_free fields)) (map row_fields rows) ≡ map row_fields rows
bound_rows [] = refl
bound_rows (r ∷ rows) = rw ((type_is r.kind).0, bound_rows rows) refl
