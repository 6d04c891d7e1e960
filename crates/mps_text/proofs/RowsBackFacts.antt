-- The rows of the meaning are the rows of the program.
use Rattle.std.proofs.Common.{◌≡◌, ℕ, Bool, true, false, List, [], ◌∷◌, ◌++◌, map, reverse, refl, sym, subst, Some}
use Rattle.std.specs.Prelude.{bytes_eq, find, flat_map, ℤ}
use Rattle.std.specs.List.{list_any, AllByRecursion, IsDistinct}
use Rattle.std.specs.Fmt.{signed_decimal}
use Rattle.std.proofs.lemmas.List.{reverse-append, reverse-reverse}
use Rattle.std.proofs.lemmas.Grind.{flat_map-append}
use Rattle.std.proofs.lemmas.List.Folds.{list_any-append}
use Rattle.std.proofs.lemmas.Slice.Eq.{bytes_eq-Decides}
use Rattle.auction_terms.proofs.OfferFacts.{all_agree}
use Rattle.program_rows.specs.Program.{TableRow}
use Rattle.auction_terms.specs.LineFields.{LineFields, field}
use Rattle.program_rows.specs.MpsSections.{Sections}
use Rattle.program_rows.specs.MpsProgram.{row_kind_of, is_free, table_rows, line_right_sides, number_beside}
use Rattle.mps_text.proofs.NumberFacts.{IsSmall, number-signed_decimal}
use Rattle.mps_text.proofs.RowPhaseFacts.{bound_rows, type_is}
use Rattle.mps_text.proofs.RightSidePhaseFacts.{find-last, find-first}
use Rattle.mps_text.proofs.FieldFacts.{row_fields, right_side_fields}

abbrev shown : TableRow → List ℕ × List ℕ
shown r = (r.name, signed_decimal r.right_side)

abbrev named : List ℕ → List ℕ × List ℕ → Bool
named name pair = bytes_eq name pair.0

pairs-reverse : (rows : List TableRow) → flat_map line_right_sides (reverse (map right_side_fields rows)) ≡ reverse (map shown rows)
pairs-reverse [] = refl
pairs-reverse (r ∷ rows) =
    rw (
      reverse-append (right_side_fields r ∷ []) (map right_side_fields rows),
      flat_map-append line_right_sides (reverse
          (map right_side_fields rows)) (right_side_fields r ∷ []),
      pairs-reverse rows,
    ) (sym (reverse-append (shown r ∷ []) (map shown rows)))

none_named : (name : List ℕ) (rows : List TableRow) → AllByRecursion (λ other. bytes_eq name other ≡ false) (map (λ r. r.name) rows)
    → list_any (named name) (reverse (map shown rows)) ≡ false
none_named name [] h = refl
none_named name (r ∷ rows) h = rw (
  reverse-append (shown r ∷ []) (map shown rows),
  list_any-append (named name) (reverse
      (map shown rows)) (shown r ∷ []),
  none_named name rows h.1,
  h.0,
) refl

found : (ps : List TableRow) → IsDistinct bytes_eq (map (λ r. r.name) ps)
    → AllByRecursion (λ r. find (named r.name) (reverse (map shown ps)) ≡ Some (shown r)) ps
unfolding IsDistinct
found [] h = tt
found (r ∷ ps) h =
    let turned : reverse (shown r ∷ map shown ps) ≡ reverse (map shown ps) ++ shown r ∷ [] = reverse-append (shown r ∷ []) (map shown ps) in
    let back = sym turned in
    let others = all_agree (λ q. find (named q.name) (reverse (map shown ps)) ≡ Some (shown q))
    (λ q. find (named q.name) (reverse (map shown ps) ++ shown r ∷ []) ≡ Some (shown q)) ps
    (λ q. find-first (named q.name) (reverse (map shown ps)) (shown r ∷ []) (shown q)) (found ps h.1) in (
      rw turned (find-last (named r.name) (reverse (map shown ps)) (shown r) (none_named r.name ps h.0) ((bytes_eq-Decides r.name r.name).1 refl)),
      subst (λ (w : List (List ℕ × List ℕ)). AllByRecursion (λ q. find (named q.name) w ≡ Some (shown q)) ps) back others,
    )

rows_by : (number : List ℕ → ℤ) (ps : List TableRow) → AllByRecursion (λ r. number r.name ≡ r.right_side) ps
    → map (λ fields. record { name = field 1 fields; kind = row_kind_of (field 0 fields); right_side = number (field 1 fields) })
    (map row_fields ps) ≡ ps
rows_by number [] h = refl
rows_by number (r ∷ ps) h = rw ((type_is r.kind).1, h.0, rows_by number ps h.1) refl

-- the right sides, once the lines of RHS are read
right_sides_back : (before : Sections) (ps qs : List TableRow) → before.right_sides ≡ reverse (map right_side_fields qs)
    → AllByRecursion (λ r. find (named r.name) (reverse (map shown qs)) ≡ Some (shown r)) ps
    → AllByRecursion (λ r. IsSmall r.right_side) ps
    → AllByRecursion (λ r. number_beside (flat_map line_right_sides before.right_sides) r.name ≡ r.right_side) ps
right_sides_back before [] qs e h small = tt
right_sides_back before (r ∷ ps) qs e h small =
    (rw (e, pairs-reverse qs, h.0, number-signed_decimal r.right_side small.0) refl, right_sides_back before ps qs e h.1 small.1)

-- the rows, once the lines of ROWS and RHS are read
pub rows_back : (before : Sections) (free : LineFields) (ps : List TableRow) → is_free free ≡ true
    → before.rows ≡ reverse (free ∷ map row_fields ps) → before.right_sides ≡ reverse (map right_side_fields ps)
    → IsDistinct bytes_eq (map (λ r. r.name) ps) → AllByRecursion (λ r. IsSmall r.right_side) ps
    → table_rows before.rows (flat_map line_right_sides before.right_sides) ≡ ps
rows_back before free ps f declared sides differ small =
    rw (declared, reverse-reverse (free ∷ map row_fields ps), f, bound_rows ps)
    (rows_by (number_beside (flat_map line_right_sides before.right_sides)) ps
    (right_sides_back before ps ps sides (found ps differ) small))
