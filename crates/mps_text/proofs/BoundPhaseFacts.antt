-- The lines of BOUNDS are read without a fault.
use Rattle.std.proofs.Common.{◌≡◌, ℕ, true, List, [], ◌∷◌, map, refl, None}
use Rattle.std.specs.Prelude.{codes}
use Rattle.std.specs.List.{AllByRecursion}
use Rattle.auction_terms.proofs.OfferFacts.{all_agree}
use Rattle.program_rows.specs.declared.column.Bounds.{Bounds}
use Rattle.program_rows.specs.declared.column.Bounds.TheVariants.{ZeroOrOne, Zero, One}
use Rattle.program_rows.specs.Program.{TableColumn}
use Rattle.program_rows.specs.MpsLines.{Data}
use Rattle.program_rows.specs.MpsSections.{Sections, with_line}
use Rattle.program_rows.specs.MpsFaults.{fault}
use Rattle.auction_terms.specs.Decimals.{number}
use Rattle.mps_text.specs.Text.{bound_words}
use Rattle.mps_text.proofs.BlockFacts.{AreRead}
use Rattle.mps_text.proofs.FieldFacts.{bound_fields}
use Rattle.program_rows.specs.MpsProgram.{is_column}

bound-read : (before : Sections) (name : List ℕ) (b : Bounds) → before.section ≡ codes "BOUNDS" → is_column before.columns name ≡ true
    → fault before (Data ((bound_words b).0 ∷ codes "BND" ∷ name ∷ (bound_words b).1 ∷ [])) ≡ None
unfolding fault number
bound-read before name ZeroOrOne s known = rw (s, known) refl
bound-read before name Zero s known = rw (s, known) refl
bound-read before name One s known = rw (s, known) refl

still_known : (before : Sections) (c : TableColumn) (columns : List TableColumn) → before.section ≡ codes "BOUNDS"
    → AllByRecursion (λ q. is_column before.columns q.name ≡ true) columns
    → AllByRecursion (λ q. is_column (with_line before (Data (bound_fields c))).columns q.name ≡ true) columns
still_known before c columns s h = all_agree (λ q. is_column before.columns q.name ≡ true)
    (λ q. is_column (with_line before (Data (bound_fields c))).columns q.name ≡ true) columns (λ q k. rw s k) h

pub bounds-read : (before : Sections) (columns : List TableColumn) → before.section ≡ codes "BOUNDS"
    → AllByRecursion (λ q. is_column before.columns q.name ≡ true) columns → AreRead before (map Data (map bound_fields columns))
bounds-read before [] s h = tt
bounds-read before (c ∷ columns) s h = (
  bound-read before c.name c.bounds s h.0,
  refl,
  bounds-read (with_line before
      (Data (bound_fields c))) columns s (still_known before c columns s h.1),
)
