-- A marker out of turn.
use Rattle.std.proofs.Common.{◌≡◌, Bool, true, false, not, ◌&&◌, List, length, refl, Some, ◌∙◌}
use Rattle.std.specs.Prelude.{◌==◌, bytes_eq, codes}
use Rattle.std.proofs.lemmas.Bool.{and_parts, not-true}
use Rattle.auction_terms.specs.LineFields.{LineFields, field}
use Rattle.program_rows.specs.MpsFaults.{is_integer_open, marker_fault}
use Rattle.program_rows.specs.declared.mps_fault_kind.MpsFaultKind.TheVariants.{Marker}
use Rattle.mps_reader.proofs.NameFacts.{same_name}
use Rattle.std.specs.Bool.{then_some as when}

none-right : (b : Bool) → when (not (b && false)) Marker ≡ Some Marker
none-right true = refl
none-right false = refl

pub begins-again : (lines : List LineFields) (f : LineFields) (begun : Bool) → is_integer_open lines ≡ begun
    → (bytes_eq (field 2 f) (codes "'INTORG'") && begun) ≡ true → marker_fault lines f ≡ Some Marker
begins-again lines f begun h e =
    let both = and_parts _ _ e in
    rw (h ∙ both.1, same_name (field 2 f) (codes "'INTORG'") both.0) (none-right (length f == 3))

pub ends-none : (lines : List LineFields) (f : LineFields) (begun : Bool) → is_integer_open lines ≡ begun
    → (bytes_eq (field 2 f) (codes "'INTEND'") && not begun) ≡ true → marker_fault lines f ≡ Some Marker
ends-none lines f begun h e =
    let both = and_parts _ _ e in
    rw (h ∙ not-true _ both.1, same_name (field 2 f) (codes "'INTEND'") both.0) (none-right (length f == 3))
