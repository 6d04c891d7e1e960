-- The lines of RHS are read without a fault, and give the right sides.
use Rattle.std.proofs.Common.{◌≡◌, Bool, true, false, List, [], ◌∷◌, ◌++◌, map, refl, ap, ◌∙◌, Some, None}
use Rattle.std.specs.Prelude.{bytes_eq, codes, find, flat_map}
use Rattle.std.specs.List.{list_any, AllByRecursion, IsDistinct}
use Rattle.std.proofs.lemmas.Bool.{or_parts}
use Rattle.std.proofs.lemmas.List.Folds.{find-append}
use Rattle.program_rows.specs.Program.{TableRow}
use Rattle.program_rows.specs.MpsLines.{Data}
use Rattle.program_rows.specs.MpsSections.{Sections, with_line}
use Rattle.program_rows.specs.MpsProgram.{line_right_sides, first_free}
use Rattle.program_rows.specs.MpsFaults.{fault, is_declared}
use Rattle.mps_text.proofs.BlockFacts.{AreRead}
use Rattle.mps_text.proofs.NumberFacts.{IsSmall, number-signed_decimal}
use Rattle.program_rows.proofs.NamedItemFacts.{bytes_flip}
use Rattle.std.specs.Option.{option_map_or, option_or}
use Rattle.mps_text.proofs.RowPhaseFacts.{others_kept}
use Rattle.mps_text.proofs.FieldFacts.{right_side_fields}

-- the right side of this row can be read
pub record Ready (before : Sections) (r : TableRow) : Type 0 where
  pub declared : is_declared before.rows r.name ≡ true
  pub new : list_any (λ other. bytes_eq r.name other.0) (flat_map line_right_sides before.right_sides) ≡ false
  pub bound : option_map_or (bytes_eq r.name) (first_free before.rows) false ≡ false
  pub small : IsSmall r.right_side

right_side-read : (before : Sections) (r : TableRow) → before.section ≡ codes "RHS" → Ready before r → fault before (Data (right_side_fields r)) ≡ None
unfolding fault
right_side-read before r s h = rw (s, h.declared, h.new, number-signed_decimal r.right_side h.small, h.bound) refl

still_ready : (before : Sections) (r q : TableRow) → before.section ≡ codes "RHS" → bytes_eq r.name q.name ≡ false → Ready before q
    → Ready (with_line before (Data (right_side_fields r))) q
still_ready before r q s differ h = record {
  declared = rw s h.declared;
  new = rw (s, bytes_flip r.name q.name differ) h.new;
  bound = rw s h.bound;
  small = h.small;
}

pub right_sides-read : (before : Sections) (rows : List TableRow) → before.section ≡ codes "RHS"
    → IsDistinct bytes_eq (map (λ q. q.name) rows) → AllByRecursion (Ready before) rows
    → AreRead before (map Data (map right_side_fields rows))
unfolding IsDistinct
right_sides-read before [] s differ h = tt
right_sides-read before (r ∷ rows) s differ h = (
  right_side-read before r s h.0,
  refl,
  right_sides-read (with_line before (Data (right_side_fields r))) rows s differ.1 (others_kept
      (λ q. q.name) r.name (Ready before) (Ready (with_line before (Data (right_side_fields r)))) rows
      (λ q d k. still_ready before r q s d k) differ.0 h.1),
)

-- ---- looking up by name in lines that are listed with the nearest first

pub find-last : {A : Type 0} (p : A → Bool) (xs : List A) (y : A) → list_any p xs ≡ false → p y ≡ true → find p (xs ++ y ∷ []) ≡ Some y
find-last p [] y none passes = rw passes refl
find-last p (x ∷ xs) y none passes = let parts = or_parts (p x) (list_any p xs) none in rw parts.0 (find-last p xs y parts.1 passes)

pub find-first : {A : Type 0} (p : A → Bool) (xs ys : List A) (y : A) → find p xs ≡ Some y → find p (xs ++ ys) ≡ Some y
find-first p xs ys y h = find-append p xs ys ∙ ap (λ o. option_or o (find p ys)) h
