-- The bytes of the sections, one after the other, are the text.
use Rattle.std.proofs.Common.{◌≡◌, ℕ, List, [], ◌∷◌, ◌++◌, length, map, refl, sym, ap, ◌∙◌, append_assoc}
use Rattle.std.specs.Prelude.{codes, flat_map, ℤ}
use Rattle.std.proofs.lemmas.List.{map-append}
use Rattle.std.proofs.lemmas.List.Folds.{flat_map-map}
use Rattle.std.proofs.lemmas.Grind.{flat_map-append}
use Rattle.program_rows.specs.declared.program.ProgramParts.{ProgramParts}
use Rattle.program_rows.specs.Program.{Table, TableColumn}
use Rattle.program_rows.specs.Parts.{shown_row, table_of}
use Rattle.auction_terms.specs.LineFields.{LineFields}
use Rattle.program_rows.specs.MpsLines.{Data}
use Rattle.mps_text.specs.Text.{written, text, block, if_any}
use Rattle.mps_text.specs.Bytes.{bound_bytes, column_bytes, cost_bytes, right_side_bytes, row_bytes}
use Rattle.mps_text.specs.inside.Bytes.{parts_bytes, where_any}
use Rattle.std.specs.Fmt.{signed_decimal}
use Rattle.program_rows.specs.ProgramNames.{row_name}
use Rattle.mps_text.proofs.FieldFacts.{bound_fields, bounds_part, column_fields, columns_part, end_line, first_marker}
use Rattle.mps_text.proofs.FieldFacts.{last_marker, right_side_fields, row_fields, rows_part, sides_part}

pub where_any-some : {X : Type 0} (xs : List X) (bytes : List ℕ) → (length xs ≡ 0 → ⊥) → bytes ≡ where_any xs bytes
where_any-some [] bytes some = absurd (some refl)
where_any-some (x ∷ xs) bytes some = refl

abbrev flat : List LineFields → List ℕ
flat ls = flat_map written (map Data ls)

flat-append : (xs ys : List LineFields) → flat (xs ++ ys) ≡ flat xs ++ flat ys
flat-append xs ys = ap (flat_map written) (map-append Data xs ys) ∙ flat_map-append written (map Data xs) (map Data ys)

flat-each : {X : Type 0} (h : X → LineFields) (xs : List X) → flat (map h xs) ≡ flat_map (λ x. written (Data (h x))) xs
flat-each h xs = flat_map-map written Data (map h xs) ∙ flat_map-map (λ l. written (Data l)) h xs

flat-columns : (p : Table) (cs : List TableColumn) → flat (flat_map (column_fields p) cs) ≡ flat_map (column_bytes p.objective p.rows) cs
flat-columns p [] = refl
flat-columns p (c ∷ cs) =
    flat-append (column_fields p c) (flat_map (column_fields p) cs)
    ∙ ap (λ (w : List ℕ). (cost_bytes p.objective c ++ w) ++ flat (flat_map (column_fields p) cs))
    (flat-each (λ (e : ℕ × ℤ). c.name ∷ row_name p.rows e.0 ∷ signed_decimal e.1 ∷ []) c.entries)
    ∙ ap (λ (w : List ℕ). column_bytes p.objective p.rows c ++ w) (flat-columns p cs)

columns-part : (p : Table) (cs : List TableColumn) → p.columns ≡ cs
    → flat (if_any p.columns (first_marker ∷ flat_map (column_fields p) p.columns ++ last_marker ∷ []))
    ≡ where_any cs (codes " M1 'MARKER' 'INTORG'\n" ++ flat_map (column_bytes p.objective p.rows) cs ++ codes " M2 'MARKER' 'INTEND'\n")
columns-part p [] e = rw e refl
columns-part p (c ∷ cs) e =
    let inner : flat (flat_map (column_fields p) (c ∷ cs) ++ last_marker ∷ [])
    ≡ flat_map (column_bytes p.objective p.rows) (c ∷ cs) ++ codes " M2 'MARKER' 'INTEND'\n" =
    flat-append (flat_map (column_fields p) (c ∷ cs)) (last_marker ∷ [])
    ∙ ap (λ (w : List ℕ). w ++ codes " M2 'MARKER' 'INTEND'\n") (flat-columns p (c ∷ cs)) in
    rw e (ap (λ (w : List ℕ). codes " M1 'MARKER' 'INTORG'\n" ++ w) inner)

bounds-part : (cs : List TableColumn) → flat_map written (if_any cs (block (codes "BOUNDS") (map bound_fields cs)))
    ≡ where_any cs (codes "BOUNDS\n" ++ flat_map bound_bytes cs)
bounds-part [] = refl
bounds-part (c ∷ cs) = ap (λ (w : List ℕ). codes "BOUNDS\n" ++ w) (flat-each bound_fields (c ∷ cs))

-- the bytes of the first two sections
abbrev pub front_bytes : Table → List ℕ
front_bytes p = codes "NAME wdp\nROWS\n" ++ written (Data (codes "N" ∷ p.objective ∷ [])) ++ flat_map row_bytes p.rows

abbrev pub between_bytes : Table → List ℕ
between_bytes p = where_any p.columns (codes " M1 'MARKER' 'INTORG'\n" ++ flat_map (column_bytes p.objective p.rows) p.columns ++ codes
    " M2 'MARKER' 'INTEND'\n")

abbrev pub table_bytes : Table → List ℕ
table_bytes p = front_bytes p ++ codes "COLUMNS\n" ++ between_bytes p ++ (codes "RHS\n" ++ flat_map right_side_bytes p.rows) ++ where_any
    p.columns (codes "BOUNDS\n" ++ flat_map bound_bytes p.columns) ++ codes "ENDATA\n"

pub text-of_table : (p : Table) → table_bytes p ≡ text p
unfolding text
text-of_table p = sym (
    ap (λ (w : List ℕ). codes "NAME wdp\n" ++ w) (
    flat_map-append written (rows_part p ++ columns_part p ++ sides_part p ++ if_any p.columns (bounds_part p)) (end_line ∷ [])
    ∙ ap (λ (w : List ℕ). w ++ codes "ENDATA\n") (
    flat_map-append written (rows_part p ++ columns_part p ++ sides_part p) (if_any p.columns (bounds_part p))
    ∙ ap (λ (w : List ℕ). w ++ flat_map written (if_any p.columns (bounds_part p))) (
    flat_map-append written (rows_part p ++ columns_part p) (sides_part p)
    ∙ ap (λ (w : List ℕ). w ++ flat_map written (sides_part p)) (flat_map-append written (rows_part p) (columns_part p)))))
    ∙ rw (flat-each row_fields p.rows, columns-part p p.columns refl, flat-each right_side_fields p.rows, bounds-part p.columns)
    (ap (λ (w : List ℕ). w ++ (codes "RHS\n" ++ flat_map right_side_bytes p.rows) ++ where_any p.columns
    (codes "BOUNDS\n" ++ flat_map bound_bytes p.columns) ++ codes "ENDATA\n")
    (sym (append_assoc (front_bytes p) (codes "COLUMNS\n") (between_bytes p)))))

pub text-of_parts : (q : ProgramParts) (p : Table) → table_of q ≡ p → parts_bytes q ≡ text p
text-of_parts q p e =
    let parsed : parts_bytes q ≡ text (table_of q) = rw (
      ← flat_map-map row_bytes shown_row q.rows.items,
      ← flat_map-map right_side_bytes
          shown_row q.rows.items,
    ) (text-of_table (table_of q)) in
    parsed ∙ ap text e
