-- Right sides are those of the lines so far.
use Rattle.std.proofs.Common.{◌≡◌, ℕ, zero, suc, Bool, true, false, not, ◌&&◌, List, [], ◌∷◌, length, map, take, drop, refl}
use Rattle.std.proofs.Common.{sym, ap, subst, ◌∙◌, Option, Some, ℤ}
use Rattle.program_rows.proofs.NamedItemFacts.{bytes_flip}
use Rattle.std.specs.Prelude.{◌-◌, ◌%◌, nat_le, slice_get, bytes_eq, if◌then◌else◌, flat_map}
use Rattle.std.specs.List.{AllByRecursion, IsDistinct}
use Rattle.std.specs.Option.{option_map_or}
use Rattle.std.proofs.lemmas.List.{length-drop, drop-map}
use Rattle.std.proofs.Math.Seq.{take-length}
use denote.Ref.{Bor}
use Rattle.auction_terms.specs.LineFields.{LineFields, field}
use Rattle.program_rows.specs.MpsSections.{Sections}
use Rattle.program_rows.specs.MpsProgram.{pairs, row_kind_of, line_right_sides, first_free}
use Rattle.program_rows.specs.MpsFaults.{earliest_fault, pairs_fault, right_side_fault}
use Rattle.program_rows.specs.declared.mps_fault_kind.MpsFaultKind.{MpsFaultKind}
use Rattle.program_rows.specs.declared.mps_fault_kind.MpsFaultKind.TheVariants.{UnknownRow, EntryRepeated}
use Rattle.program_rows.specs.declared.row.Row.{Row}
use Rattle.program_rows.specs.Program.{TableRow}
use Rattle.program_rows.specs.Parts.{shown_row}
use Rattle.auction_terms.specs.Lines.{bytes_of}
use Rattle.mps_reader.specs.inside.Rows.{declared_row_names, with_side, rows_by, side_fault}
use Rattle.mps_reader.proofs.PairFaultFacts.{last-one, pair_checks, constant_check}
use Rattle.mps_reader.proofs.NameFacts.{own_name, length-bytes}
use Rattle.mps_reader.proofs.RowStepFacts.{names-shown}
use Rattle.mps_reader.proofs.PairFacts.{all-at}
use Rattle.std.specs.Bool.{then_some as when}

-- ---- one right side

pub names-by : (side : List ℕ → ℤ) (lines : List LineFields) → map (λ (r : TableRow). r.name) (rows_by side lines) ≡ map (field 1) lines
names-by side [] = refl
names-by side (f ∷ lines) = ap (λ ns. field 1 f ∷ ns) (names-by side lines)

pub row-names-by : (rows : List Row) (side : List ℕ → ℤ) (lines : List LineFields) → map shown_row rows ≡ rows_by side lines
    → declared_row_names rows ≡ map (field 1) lines
row-names-by rows side lines h = names-shown rows ∙ ap (map (λ (r : TableRow). r.name)) h ∙ names-by side lines

pub rows-same : (side other : List ℕ → ℤ) (lines : List LineFields) → ((n : List ℕ) → side n ≡ other n) → rows_by side lines ≡ rows_by other lines
rows-same side other [] e = refl
rows-same side other (f ∷ lines) e =
    rw (e (field 1 f)) (ap (λ rs. record { name = field 1 f; kind = row_kind_of (field 0 f); right_side = other (field 1 f) } ∷ rs)
    (rows-same side other lines e))

-- a row that isn't one of these changes nothing
pub none-by : (side : List ℕ → ℤ) (row : List ℕ) (v : ℤ) (lines : List LineFields)
    → AllByRecursion (λ n. bytes_eq row n ≡ false) (map (field 1) lines)
    → rows_by side lines ≡ rows_by (λ n. if bytes_eq n row then v else side n) lines
none-by side row v [] h = refl
none-by side row v (f ∷ lines) h =
    rw (bytes_flip row (field 1 f) h.0) (ap (λ rs. record { name = field 1 f; kind = row_kind_of (field 0 f); right_side = side (field 1 f) } ∷ rs)
    (none-by side row v lines h.1))

pub side-by : (side : List ℕ → ℤ) (row : List ℕ) (v : ℤ) (place : ℕ) (lines : List LineFields) → IsDistinct bytes_eq (map (field 1) lines)
    → slice_get (map (field 1) lines) place ≡ Some row
    → with_side place v (rows_by side lines) ≡ rows_by (λ n. if bytes_eq n row then v else side n) lines
unfolding IsDistinct
side-by side row v place [] d e = absurd cc
side-by side row v zero (f ∷ lines) d e =
    let same : field 1 f ≡ row = cc in
    rw (same, own_name row) (ap (λ rs. record { name = row; kind = row_kind_of (field 0 f); right_side = v } ∷ rs)
    (none-by side row v lines (subst (λ n. AllByRecursion (λ y. bytes_eq n y ≡ false) (map (field 1) lines)) same d.0)))
side-by side row v (suc place) (f ∷ lines) d e =
    rw (all-at (λ y. bytes_eq (field 1 f) y ≡ false) (map (field 1) lines) place row e d.0)
    (ap (λ rs. record { name = field 1 f; kind = row_kind_of (field 0 f); right_side = side (field 1 f) } ∷ rs) (side-by side row v place lines d.1 e))

-- ---- faults

pub checks-are : (lines : List LineFields) (row number : List ℕ) (known repeated cost : Bool) (fault : Option MpsFaultKind)
    → option_map_or (bytes_eq row) (first_free lines) false ≡ cost → side_fault known repeated cost number ≡ fault
    → pair_checks known repeated number (constant_check (first_free lines) row number) ≡ fault
checks-are lines row number known repeated cost fault o h = ap (λ c. side_fault known repeated c number) o ∙ h

pub early-refused : (known r cost : Bool) (number : List ℕ) (kind : MpsFaultKind)
    → earliest_fault (when (not known) UnknownRow ∷ when r EntryRepeated ∷ []) ≡ Some kind → side_fault known r cost number ≡ Some kind
early-refused true false cost number kind h = absurd cc
early-refused _ _ cost number kind h = h

-- ---- a whole line

pub line-pairs : (fields : List (Bor (List ℕ)))
    → line_right_sides (bytes_of fields) ≡ pairs (bytes_of (take (length fields - length fields % 2) (drop (length fields % 2) fields)))
line-pairs fields =
    let whole : take (length fields - length fields % 2) (drop (length fields % 2) fields) ≡ drop (length fields % 2) fields =
    ap (λ n. take n (drop (length fields % 2) fields)) (sym (length-drop (length fields % 2) fields)) ∙ take-length (drop (length fields % 2) fields) in
    ap (λ n. pairs (drop (n % 2) (bytes_of fields))) (length-bytes fields) ∙ ap pairs (drop-map (λ f. f.now) (length fields % 2) fields)
    ∙ ap (λ fs. pairs (bytes_of fs)) (sym whole)

pub line-fault : (before : Sections) (f : LineFields) (fault : Option MpsFaultKind) → (nat_le 2 (length f) && nat_le (length f) 5) ≡ true
    → pairs_fault before.rows (first_free before.rows) (flat_map line_right_sides before.right_sides) (line_right_sides f) ≡ fault
    → right_side_fault before f ≡ fault
line-fault before f fault count h =
    rw count (last-one (pairs_fault before.rows (first_free before.rows) (flat_map line_right_sides before.right_sides) (line_right_sides f)) ∙ h)
