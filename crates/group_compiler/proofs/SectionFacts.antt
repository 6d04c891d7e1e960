-- The text of a program, section by section.
use Rattle.std.proofs.Common.{◌≡◌, ℕ, List, [], ◌∷◌, ◌++◌, refl, sym, ap, ap₂, ◌∙◌, append_assoc, append-nil}
use Rattle.std.specs.Prelude.{codes, flat_map}
use Rattle.program_rows.specs.Program.{Table, TableColumn}
use Rattle.program_rows.specs.MpsLines.{Data}
use Rattle.mps_text.specs.Text.{text, written}
use Rattle.mps_text.specs.Bytes.{row_bytes, right_side_bytes, bound_bytes, column_bytes}
use Rattle.mps_text.specs.inside.Bytes.{where_any}
use Rattle.group_compiler.specs.declared.section.Section.TheVariants.{Rows, Columns, RightSides, Bounds}
use Rattle.group_compiler.specs.Joining.{section_text}
use Rattle.mps_text.proofs.TextByteFacts.{between_bytes, front_bytes, text-of_table}

-- the lines of columns between markers, if there are any
abbrev between_markers : List ℕ → List ℕ
between_markers lines = where_any lines (codes " M1 'MARKER' 'INTORG'\n" ++ (lines ++ codes " M2 'MARKER' 'INTEND'\n"))

-- the lines of bounds below their header, if there are any
abbrev below_bounds : List ℕ → List ℕ
below_bounds lines = where_any lines (codes "BOUNDS\n" ++ lines)

-- a column has lines
columns-any : (p : Table) (cs : List TableColumn) (bytes : List ℕ) → where_any cs bytes ≡ where_any (flat_map (column_bytes p.objective p.rows) cs) bytes
columns-any p [] bytes = refl
columns-any p (c ∷ cs) bytes = refl

bounds-any : (cs : List TableColumn) (bytes : List ℕ) → where_any cs bytes ≡ where_any (flat_map bound_bytes cs) bytes
bounds-any [] bytes = refl
bounds-any (c ∷ cs) bytes = refl

-- six lists, one after the other, from either side
from_left : (a b c d e f : List ℕ) → (((((a ++ b) ++ c) ++ d) ++ e) ++ f) ≡ a ++ (b ++ (c ++ (d ++ (e ++ f))))
from_left a b c d e f =
    append_assoc (((a ++ b) ++ c) ++ d) e f ∙ append_assoc ((a ++ b) ++ c) d (e ++ f) ∙ append_assoc (a ++ b) c (d ++ (e ++ f))
    ∙ append_assoc a b (c ++ (d ++ (e ++ f)))

-- each section as it is defined
columns-reported : (lines rest : List ℕ) → codes "COLUMNS\n" ++ (between_markers lines ++ rest) ≡ section_text Columns lines ++ rest
columns-reported [] rest = refl
columns-reported (x ∷ lines) rest = refl

bounds-reported : (lines : List ℕ) → below_bounds lines ++ codes "ENDATA\n" ≡ section_text Bounds lines
bounds-reported [] = refl
bounds-reported (x ∷ lines) = refl

plain-reported : (front lines rest : List ℕ) → front ++ (lines ++ rest) ≡ (front ++ (lines ++ [])) ++ rest
plain-reported front lines rest = ap (λ (w : List ℕ). front ++ (w ++ rest)) (sym (append-nil lines)) ∙ sym (append_assoc front (lines ++ []) rest)

all-reported : (rows columns right_sides bounds : List ℕ)
    → codes "NAME wdp\nROWS\n N OBJ\n" ++ (rows ++ (codes "COLUMNS\n" ++
    (between_markers columns ++ (codes "RHS\n" ++ (right_sides ++ (below_bounds bounds ++ codes "ENDATA\n"))))))
    ≡ section_text Rows rows ++ (section_text Columns columns ++ (section_text RightSides right_sides ++ section_text Bounds bounds))
all-reported rows columns right_sides bounds =
    ap (λ (w : List ℕ). codes "NAME wdp\nROWS\n N OBJ\n" ++ (rows ++ w))
    (ap (λ (w : List ℕ). codes "COLUMNS\n" ++ (between_markers columns ++ w))
    (ap (λ (w : List ℕ). codes "RHS\n" ++ (right_sides ++ w)) (bounds-reported bounds) ∙ plain-reported (codes "RHS\n") right_sides
    (section_text Bounds bounds))
    ∙ columns-reported columns (section_text RightSides right_sides ++ section_text Bounds bounds))
    ∙ plain-reported (codes "NAME wdp\nROWS\n N OBJ\n") rows (section_text Columns columns ++
    (section_text RightSides right_sides ++ section_text Bounds bounds))

pub text-sections : (p : Table) → p.objective ≡ codes "OBJ"
    → text p ≡ section_text Rows (flat_map row_bytes p.rows) ++ (section_text Columns (flat_map (column_bytes p.objective p.rows) p.columns)
    ++ (section_text RightSides (flat_map right_side_bytes p.rows) ++ section_text Bounds (flat_map bound_bytes p.columns)))
text-sections p o =
    let rows = flat_map row_bytes p.rows in
    let sides = flat_map right_side_bytes p.rows in
    let columns = flat_map (column_bytes p.objective p.rows) p.columns in
    let bounds = flat_map bound_bytes p.columns in
    sym (text-of_table p)
    ∙ from_left (front_bytes p) (codes "COLUMNS\n") (between_bytes p) (codes "RHS\n" ++ sides)
    (where_any p.columns (codes "BOUNDS\n" ++ bounds)) (codes "ENDATA\n")
    ∙ ap (λ (name : List ℕ). codes "NAME wdp\nROWS\n" ++ written (Data (codes "N" ∷ name ∷ [])) ++ rows ++
    (codes "COLUMNS\n" ++ (between_bytes p ++ (codes "RHS\n" ++ (sides ++
    (where_any p.columns (codes "BOUNDS\n" ++ bounds) ++ codes "ENDATA\n")))))) o
    ∙ ap₂ (λ (between below : List ℕ). codes "NAME wdp\nROWS\n N OBJ\n" ++
    (rows ++ (codes "COLUMNS\n" ++ (between ++ (codes "RHS\n" ++ (sides ++ (below ++ codes "ENDATA\n")))))))
    (columns-any p p.columns (codes " M1 'MARKER' 'INTORG'\n" ++ (columns ++ codes " M2 'MARKER' 'INTEND'\n")))
    (bounds-any p.columns (codes "BOUNDS\n" ++ bounds))
    ∙ all-reported rows columns sides bounds
