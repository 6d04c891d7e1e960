-- Every line of the text of a program is one that is read as it was written.
use Rattle.std.proofs.Common.{◌≡◌, ℕ, true, ◌&&◌, List, [], ◌∷◌, ◌++◌, length, map, refl, arith}
use Rattle.std.specs.Prelude.{◌≢◌, codes, flat_map, ℤ, nat_le, nat_lt, slice_index}
use Rattle.std.specs.List.{list_all, AllByRecursion}
use Rattle.std.proofs.lemmas.Bool.{and_parts, leb-true, ltb-true}
use Rattle.program_rows.specs.declared.row.RowKind.{RowKind}
use Rattle.program_rows.specs.declared.row.RowKind.TheVariants.{AtMost, AtLeast, Equal}
use Rattle.program_rows.specs.declared.column.Bounds.{Bounds}
use Rattle.program_rows.specs.declared.column.Bounds.TheVariants.{ZeroOrOne, Zero, One}
use Rattle.program_rows.specs.Program.{Table, TableRow, TableColumn}
use Rattle.program_rows.specs.Parts.{IsProgram, AreEntries, IsName}
use Rattle.auction_terms.specs.LineFields.{LineFields}
use Rattle.program_rows.specs.MpsLines.{Line, Header, Data}
use Rattle.mps_text.specs.Text.{block, if_any, kind_letter, bound_words}
use Rattle.program_rows.specs.Legal.{IsWritable, IsSmall}
use Rattle.auction_terms.proofs.OfferFacts.{all_agree, all_append}
use Rattle.program_rows.proofs.EachFacts.{each_map}
use Rattle.program_rows.proofs.NamedItemFacts.{all_true}
use Rattle.mps_text.proofs.SmallFacts.{small_costs, small_entries}
use Rattle.mps_text.proofs.LineFacts.{IsField, Printable, IsWritten}
use Rattle.mps_text.proofs.NumberFacts.{IsField-signed_decimal}
use Rattle.mps_text.proofs.ListingFacts.{row_names, at-name}
use Rattle.std.specs.Fmt.{signed_decimal}
use Rattle.program_rows.specs.ProgramNames.{row_name}
use Rattle.mps_text.proofs.FieldFacts.{bound_fields, bounds_part, column_fields, columns_part, end_line, first_marker}
use Rattle.mps_text.proofs.FieldFacts.{last_marker, name_line, right_side_fields, row_fields, rows_part, sides_part}

printables : (bytes : List ℕ) → list_all (λ b. nat_le 33 b && nat_le b 126) bytes ≡ true → AllByRecursion Printable bytes
printables bytes h = all_agree (λ b. (nat_le 33 b && nat_le b 126) ≡ true) Printable bytes
    (λ b e. let sides = and_parts (nat_le 33 b) (nat_le b 126) e in (leb-true 33 b sides.0, leb-true b 126 sides.1))
    (all_true (λ b. nat_le 33 b && nat_le b 126) bytes h)

-- known bytes are a field if they compute to be
known : (bytes : List ℕ) → nat_lt 0 (length bytes) ≡ true → list_all (λ b. nat_le 33 b && nat_le b 126) bytes ≡ true → IsField bytes
known bytes some all = (ltb-true 0 (length bytes) some, printables bytes all)

abbrev IsDataLine : LineFields → Type 0
IsDataLine fields = IsWritten (Data fields)

letter : (k : RowKind) → IsField (kind_letter k)
letter AtMost = known (codes "L") refl refl
letter AtLeast = known (codes "G") refl refl
letter Equal = known (codes "E") refl refl

type-field : (b : Bounds) → IsField ((bound_words b).0)
type-field ZeroOrOne = known (codes "UP") refl refl
type-field Zero = known (codes "FX") refl refl
type-field One = known (codes "FX") refl refl

value-field : (b : Bounds) → IsField ((bound_words b).1)
value-field ZeroOrOne = known (codes "1") refl refl
value-field Zero = known (codes "0") refl refl
value-field One = known (codes "1") refl refl

row-lines : (rows : List TableRow) → AllByRecursion IsName (row_names rows) → AllByRecursion IsDataLine (map row_fields rows)
row-lines [] h = tt
row-lines (r ∷ rows) h = ((letter r.kind, (h.0, tt)), row-lines rows h.1)

side-lines : (rows : List TableRow) → AllByRecursion IsName (row_names rows) → AllByRecursion (λ r. IsSmall r.right_side) rows
    → AllByRecursion IsDataLine (map right_side_fields rows)
side-lines [] h s = tt
side-lines (r ∷ rows) h s = ((known (codes "RHS") refl refl, (h.0, (IsField-signed_decimal r.right_side s.0, tt))), side-lines rows h.1 s.1)

bound-lines : (cs : List TableColumn) → AllByRecursion IsName (map (λ c. c.name) cs) → AllByRecursion IsDataLine (map bound_fields cs)
bound-lines [] h = tt
bound-lines (c ∷ cs) h = ((type-field c.bounds, (known (codes "BND") refl refl, (h.0, (value-field c.bounds, tt)))), bound-lines cs h.1)

entry-lines : (rows : List TableRow) (name : List ℕ) (es : List (ℕ × ℤ)) → IsName name → AllByRecursion IsName (row_names rows)
    → AreEntries (length rows) es → AllByRecursion (λ e. IsSmall e.1) es
    → AllByRecursion IsDataLine (map (λ (e : ℕ × ℤ). name ∷ row_name rows e.0 ∷ signed_decimal e.1 ∷ []) es)
entry-lines rows name [] n h legal s = tt
entry-lines rows name (e ∷ es) n h legal s =
    ((n, (at-name IsName rows e.0 h legal.0, (IsField-signed_decimal e.1 s.0, tt))), entry-lines rows name es n h legal.3 s.1)

column-lines : (p : Table) (cs : List TableColumn) → AllByRecursion IsName (p.objective ∷ row_names p.rows)
    → AllByRecursion IsName (map (λ c. c.name) cs) → AllByRecursion (λ c. AreEntries (length p.rows) c.entries) cs
    → AllByRecursion (λ c. IsSmall c.cost) cs → AllByRecursion (λ c. AllByRecursion (λ e. IsSmall e.1) c.entries) cs
    → AllByRecursion IsDataLine (flat_map (column_fields p) cs)
column-lines p [] rows names legal cost small = tt
column-lines p (c ∷ cs) rows names legal cost small =
    all_append IsDataLine (column_fields p c) (flat_map (column_fields p) cs)
    ((names.0, (rows.0, (IsField-signed_decimal c.cost cost.0, tt))), entry-lines p.rows c.name c.entries names.0 rows.1 legal.0 small.0)
    (column-lines p cs rows names.1 legal.1 cost.1 small.1)

header : (word : List ℕ) → slice_index word 0 ≢ 42 → IsField word → IsWritten (Header word [])
header word star f = (star, (f, tt))

headed : (word : List ℕ) (ls : List LineFields) → slice_index word 0 ≢ 42 → IsField word → AllByRecursion IsDataLine ls
    → AllByRecursion IsWritten (block word ls)
headed word ls star f h = (header word star f, each_map IsWritten Data ls h)

marker-line : (name word : List ℕ) → IsField name → IsField word → IsDataLine (name ∷ codes "'MARKER'" ∷ word ∷ [])
marker-line name word n w = (n, (known (codes "'MARKER'") refl refl, (w, tt)))

column-part : (p : Table) (cs : List TableColumn) → AllByRecursion IsDataLine (flat_map (column_fields p) cs)
    → AllByRecursion IsDataLine (if_any cs (first_marker ∷ flat_map (column_fields p) cs ++ last_marker ∷ []))
column-part p [] h = tt
column-part p (c ∷ cs) h = (
  marker-line (codes "M1") (codes "'INTORG'") (known (codes "M1") refl refl) (known (codes "'INTORG'") refl refl),
  all_append IsDataLine (flat_map (column_fields p) (c ∷ cs)) (last_marker ∷ []) h
      (marker-line (codes "M2") (codes "'INTEND'") (known (codes "M2") refl refl) (known (codes "'INTEND'") refl refl), tt),
)

bound-part : (cs : List TableColumn) → AllByRecursion IsDataLine (map bound_fields cs)
    → AllByRecursion IsWritten (if_any cs (block (codes "BOUNDS") (map bound_fields cs)))
bound-part [] h = tt
bound-part (c ∷ cs) h = headed (codes "BOUNDS") (map bound_fields (c ∷ cs)) (λ e. absurd (omega (arith, e))) (known (codes "BOUNDS") refl refl) h

-- the lines of a text
abbrev pub text_lines : Table → List Line
text_lines p = name_line ∷ rows_part p ++ columns_part p ++ sides_part p ++ if_any p.columns (bounds_part p) ++ end_line ∷ []

pub all-written : (p : Table) → IsProgram p → IsWritable p → AllByRecursion IsWritten (text_lines p)
all-written p legal parsed =
    let rest4 : AllByRecursion IsWritten (end_line ∷ []) = (header (codes "ENDATA") (λ e. absurd (omega (arith, e))) (known (codes "ENDATA") refl refl), tt) in
    let bounds = bound-part p.columns (bound-lines p.columns legal.column_names) in
    let sides = headed (codes "RHS") (map right_side_fields p.rows) (λ e. absurd (omega (arith, e))) (known (codes "RHS") refl refl)
    (side-lines p.rows legal.row_names.1 parsed.right_sides) in
    let columns = headed (codes "COLUMNS") (if_any p.columns (first_marker ∷ flat_map (column_fields p) p.columns ++ last_marker ∷ []))
    (λ e. absurd (omega (arith, e))) (known (codes "COLUMNS") refl refl)
    (column-part p p.columns (column-lines p p.columns legal.row_names legal.column_names legal.entries
    (small_costs p.columns parsed.numbers) (small_entries p.columns parsed.numbers))) in
    let rows = headed (codes "ROWS") ((codes "N" ∷ p.objective ∷ []) ∷ map row_fields p.rows) (λ e. absurd (omega (arith, e)))
    (known (codes "ROWS") refl refl) ((known (codes "N") refl refl, (legal.row_names.0, tt)), row-lines p.rows legal.row_names.1) in (
      ((λ e. absurd (omega (arith, e))), (known (codes "NAME") refl refl, (known (codes "wdp") refl refl, tt))),
      all_append IsWritten (rows_part p ++ columns_part p ++ sides_part p ++ if_any p.columns (bounds_part p)) (end_line ∷ [])
          (all_append IsWritten (rows_part p ++ columns_part p ++ sides_part p) (if_any p.columns (bounds_part p))
          (all_append IsWritten (rows_part p ++ columns_part p) (sides_part p)
          (all_append IsWritten (rows_part p) (columns_part p) rows columns) sides) bounds) rest4,
    )
