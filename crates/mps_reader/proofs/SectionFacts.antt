-- A section opens, and lines that say nothing.
use Rattle.std.proofs.Common.{◌≡◌, ◌≢◌, ℕ, ◌≤◌, ◌<◌, Bool, true, false, not, List, [], ◌∷◌, length, take, refl, sym, ap}
use Rattle.std.proofs.Common.{subst, ◌∙◌, arith, Option, Some, None, ◌&&◌, inl, inr}
use Rattle.mps_reader.proofs.BoundFacts.{and-false}
use Rattle.std.specs.Prelude.{◌==◌, ◌⊎◌, nat_le, is_none, is_some, codes, bytes_eq, nat_lt, if◌then◌else◌}
use Rattle.std.proofs.lemmas.List.{take_all, length-take-le}
use Rattle.std.proofs.lemmas.Bool.{ne_eqb, lt-ltb, ltb-true, ltb-false, le-leb, leb-true, false_from_ne_true}
use denote.Ref.{Bor}
use Rattle.auction_terms.specs.LineFields.{LineFields, field}
use Rattle.program_rows.specs.MpsLines.{Skipped, Data}
use Rattle.program_rows.specs.MpsSections.{Sections, with_line}
use Rattle.program_rows.specs.MpsProgram.{is_one_of, is_binary_bound, bound_pair, is_column}
use Rattle.program_rows.specs.MpsFaults.{place_of, earliest_fault, header_fault, row_fault, column_fault, right_side_fault, bound_fault, fault, sense_fault}
use Rattle.program_rows.specs.declared.mps_fault_kind.MpsFaultKind.{MpsFaultKind}
use Rattle.program_rows.specs.declared.mps_fault_kind.MpsFaultKind.TheVariants as kinds
use Rattle.mps_reader.specs.inside.Reading.{AreFirst, bit_fault}
use Rattle.mps_reader.specs.inside.Rows.{names_of, option_now}
use Rattle.mps_reader.specs.inside.Sections.{word_of}
use Rattle.mps_reader.specs.inside.Tracking.{DataLines, data_lines, IsAt, BeforeRows, InRows, AreStampsUpTo, LinesTell, ReadingTells}
use Rattle.mps_reader.specs.declared.sections.Section.{Section}
use Rattle.mps_reader.specs.declared.sections.Section.TheVariants as sections
use Rattle.mps_reader.specs.declared.tables.Rows.{Rows}
use Rattle.mps_reader.specs.declared.tables.ColumnTable.{ColumnTable}
use Rattle.mps_reader.specs.declared.tables.Reading.{Reading}
use Rattle.mps_reader.proofs.LineFacts.{none-stamped}
use Rattle.std.specs.Bool.{then_some as when}
use Rattle.mps_reader.proofs.ColumnStepFacts.{none-from, no-column}

-- ---- sections open in order

from-last : (new : Section) (lines : DataLines) (r : Rows) (c : ColumnTable) → 5 < place_of (word_of new) → IsAt new lines r c
from-last sections.Bounds lines r c up = tt
from-last sections.End lines r c up = tt
from-last _ lines r c up = absurd (omega arith)

from-columns : (new : Section) (lines : DataLines) (r : Rows) (c : ColumnTable) → 4 < place_of (word_of new)
    → length r.stamps.items ≡ length (names_of r.names) → lines.right_sides ≡ [] → lines.bounds ≡ [] → AreStampsUpTo (length (names_of c.names)) r
    → IsAt new lines r c
from-columns sections.RightSides lines r c up size h b low = record {
  no_bounds = b;
  stamps = rw h (none-stamped r.stamps.items (names_of r.names) (length (names_of c.names)) (λ n. false) size low (λ n. refl));
}
from-columns new lines r c up size h b low = from-last new lines r c (omega arith)

from-rows : (new : Section) (lines : DataLines) (r : Rows) (c : ColumnTable) → 3 < place_of (word_of new)
    → is_some c.current ≡ false → length r.stamps.items ≡ length (names_of r.names) → InRows lines r c → IsAt new lines r c
from-rows sections.Columns lines r c up none size h = record {
  no_rights = h.no_rights;
  no_bounds = h.no_bounds;
  low = h.low;
  current = ap option_now (none-from c.current none) ∙ rw (h.no_columns) refl;
  stamps = no-column _ c.current none;
}
from-rows new lines r c up none size h = from-columns new lines r c (omega arith) size h.no_rights h.no_bounds h.low

from-before : (new : Section) (lines : DataLines) (r : Rows) (c : ColumnTable) → 0 < place_of (word_of new)
    → is_some c.current ≡ false → length r.stamps.items ≡ length (names_of r.names) → BeforeRows lines r c → IsAt new lines r c
from-before sections.Name lines r c up none size h = h
from-before sections.Sense lines r c up none size h = h
from-before sections.Rows lines r c up none size h = h.after
from-before new lines r c up none size h = from-rows new lines r c (omega arith) none size h.after

pub section-opens : (old new : Section) (lines : DataLines) (r : Rows) (before c : ColumnTable)
    → place_of (word_of old) < place_of (word_of new) → c.names ≡ before.names → is_some c.current ≡ false
    → length r.stamps.items ≡ length (names_of r.names) → IsAt old lines r before → IsAt new lines r c
section-opens sections.Rows new lines r b c up same none size h =
    from-rows new lines r c up none size (record {
      no_columns = h.no_columns;
      no_rights = h.no_rights;
      no_bounds = h.no_bounds;
      low =
          subst (λ ns. AreStampsUpTo (length (names_of ns)) r) (sym same) h.low;
    })
section-opens sections.Columns new lines r b c up same none size h =
    from-columns new lines r c up size h.no_rights h.no_bounds (subst (λ ns. AreStampsUpTo (length (names_of ns)) r) (sym same) h.low)
section-opens sections.RightSides new lines r b c up same none size h = from-last new lines r c up
section-opens sections.Bounds new lines r b c up same none size h = from-last new lines r c (omega arith)
section-opens sections.End new lines r b c up same none size h = from-last new lines r c (omega arith)
section-opens _ new lines r b c up same none size h =
    from-before new lines r c (omega arith) none size (record {
      no_rows = h.no_rows;
      after =
          record {
            no_columns = h.after.no_columns;
            no_rights = h.after.no_rights;
            no_bounds = h.after.no_bounds;
            low =
                subst (λ ns. AreStampsUpTo (length (names_of ns)) r) (sym same) h.after.low;
          };
    })

-- ---- lines without data

pub skipped-tells : (before : Sections) (r : Reading) → ReadingTells before r → ReadingTells (with_line before Skipped) r
skipped-tells before r h = record { section = h.section; lines = h.lines }

pub no-objective : (o : Option (Bor (List ℕ))) (parsed : Option (List ℕ)) → option_now o ≡ parsed → is_none parsed ≡ not (is_some o)
no-objective None parsed e = ap is_none (sym e)
no-objective (Some x) parsed e = ap is_none (sym e)

-- ---- six fields show what a line is refused for

long-more : (more : LineFields) → 6 ≤ length more → length (take 5 more) ≡ 5
long-more more h = length-take-le 5 more (omega arith)

-- a header with its first further fields has the fault of the whole
pub header-first : (before : Sections) (word : List ℕ) (more : LineFields) → header_fault before word (take 5 more) ≡ header_fault before word more
header-first before word more = by (nat_lt 5 (length more)) refl
  where
    by : (b : Bool) → nat_lt 5 (length more) ≡ b → header_fault before word (take 5 more) ≡ header_fault before word more
    by false h = ap (header_fault before word) (take_all 5 more (let low = ltb-false _ _ h in omega (arith, low)))
    by true h =
        let many = ltb-true _ _ h in
        let five = long-more more (omega (arith, many)) in
        let a1 : nat_lt 0 (length (take 5 more)) ≡ true = ap (nat_lt 0) five in
        let a2 : nat_lt 0 (length more) ≡ true = lt-ltb 0 (length more) (omega (arith, many)) in
        let b1 : (length (take 5 more) == 1) ≡ false = ap (λ (n : ℕ). n == 1) five in
        let b2 : (length more == 1) ≡ false = ne_eqb (length more) 1 (λ e. omega (arith, many)) in
        rw (a1, a2, b1, b2) refl

-- the fault of a data line with more fields than any has
abbrev many_fault : List ℕ → List ℕ → Option MpsFaultKind
many_fault word first =
    if bytes_eq word (codes "OBJSENSE") then Some kinds.Fields
    else (if bytes_eq word (codes "ROWS") then Some kinds.Fields
    else (if bytes_eq word (codes "COLUMNS") then Some kinds.Fields
    else (if bytes_eq word (codes "RHS") then Some kinds.Fields
    else (if bytes_eq word (codes "BOUNDS") then earliest_fault (when (not (is_one_of first (codes "UP" ∷ codes "LO" ∷ codes "FX" ∷ codes "BV" ∷ [])))
    kinds.BoundType ∷ Some kinds.Fields ∷ [])
    else Some kinds.Section))))

le-false : (a b : ℕ) → b < a → nat_le a b ≡ false
le-false a b h = false_from_ne_true _ (λ e. let low = leb-true a b e in absurd (omega arith))

sense-many : (fields : LineFields) → 6 ≤ length fields → sense_fault fields ≡ Some kinds.Fields
sense-many fields h = let n1 : (length fields == 1) ≡ false = ne_eqb (length fields) 1 (λ e. omega arith) in rw n1 refl

row-many : (before : Sections) (fields : LineFields) → 6 ≤ length fields → row_fault before.rows fields ≡ Some kinds.Fields
row-many before fields h = let n2 : (length fields == 2) ≡ false = ne_eqb (length fields) 2 (λ e. omega arith) in rw n2 refl

column-many : (before : Sections) (fields : LineFields) → 6 ≤ length fields → column_fault before fields ≡ Some kinds.Fields
column-many before fields h =
    let n3 : (length fields == 3) ≡ false = ne_eqb (length fields) 3 (λ e. omega arith) in
    let n5 : (length fields == 5) ≡ false = ne_eqb (length fields) 5 (λ e. omega arith) in
    rw (n3, n5) refl

right-many : (before : Sections) (fields : LineFields) → 6 ≤ length fields → right_side_fault before fields ≡ Some kinds.Fields
right-many before fields h =
    let low : nat_le 2 (length fields) ≡ true = le-leb 2 (length fields) (omega arith) in
    let high : nat_le (length fields) 5 ≡ false = le-false (length fields) 5 (omega arith) in
    rw (low, high) refl

bound-many : (before : Sections) (fields : LineFields) → 6 ≤ length fields
    → bound_fault before.columns fields ≡ earliest_fault
    (when (not (is_one_of (field 0 fields) (codes "UP" ∷ codes "LO" ∷ codes "FX" ∷ codes "BV" ∷ []))) kinds.BoundType ∷ Some kinds.Fields ∷ [])
bound-many before fields h =
    let high : nat_le (length fields) 4 ≡ false = le-false (length fields) 4 (omega arith) in
    let none : (if is_binary_bound fields then nat_le 2 (length fields) && nat_le (length fields) 4 else nat_le 3 (length fields)
    && nat_le (length fields) 4) ≡ false = rw high (neither (is_binary_bound fields) (nat_le 2 (length fields)) (nat_le 3 (length fields))) in
    ap (λ b. earliest_fault (when (not (is_one_of (field 0 fields) (codes "UP" ∷ codes "LO" ∷ codes "FX" ∷ codes "BV" ∷ []))) kinds.BoundType
    ∷ when (not b) kinds.Fields ∷ later)) none
    ∙ by (is_one_of (field 0 fields) (codes "UP" ∷ codes "LO" ∷ codes "FX" ∷ codes "BV" ∷ []))
  where
    later : List (Option MpsFaultKind)
    later = when (not (is_column before.columns (field 0 (bound_pair fields)))) kinds.UnknownColumn
        ∷ (if is_binary_bound fields then None else bit_fault (field 1 (bound_pair fields))) ∷ []

    neither : (t a b : Bool) → (if t then a && false else b && false) ≡ false
    neither true a b = and-false a
    neither false a b = and-false b

    by : (t : Bool) → earliest_fault (when (not t) kinds.BoundType ∷ Some kinds.Fields ∷ later)
        ≡ earliest_fault (when (not t) kinds.BoundType ∷ Some kinds.Fields ∷ [])
    by true = refl
    by false = refl

ifs : (a b c d e : Bool) (p q r s t p' q' r' s' t' : Option MpsFaultKind) → p ≡ p' → q ≡ q' → r ≡ r' → s ≡ s' → t ≡ t'
    → (if a then p else (if b then q else (if c then r else (if d then s else (if e then t else Some kinds.Section)))))
    ≡ (if a then p' else (if b then q' else (if c then r' else (if d then s' else (if e then t' else Some kinds.Section)))))
ifs true b c d e p q r s t p' q' r' s' t' hp hq hr hs ht = hp
ifs false true c d e p q r s t p' q' r' s' t' hp hq hr hs ht = hq
ifs false false true d e p q r s t p' q' r' s' t' hp hq hr hs ht = hr
ifs false false false true e p q r s t p' q' r' s' t' hp hq hr hs ht = hs
ifs false false false false true p q r s t p' q' r' s' t' hp hq hr hs ht = ht
ifs false false false false false p q r s t p' q' r' s' t' hp hq hr hs ht = refl

many-fields : (before : Sections) (fields : LineFields) → 6 ≤ length fields → fault before (Data fields) ≡ many_fault before.section (field 0 fields)
unfolding fault
many-fields before fields h =
    ifs (bytes_eq before.section (codes "OBJSENSE")) (bytes_eq before.section (codes "ROWS")) (bytes_eq before.section (codes "COLUMNS"))
    (bytes_eq before.section (codes "RHS")) (bytes_eq before.section (codes "BOUNDS"))
    (sense_fault fields) (row_fault before.rows fields) (column_fault before fields) (right_side_fault before fields)
    (bound_fault before.columns fields) _ _ _ _ _
    (sense-many fields h) (row-many before fields h) (column-many before fields h) (right-many before fields h) (bound-many before fields h)

is-fault : (word first : List ℕ) → many_fault word first ≢ None
is-fault word first e =
    by (bytes_eq word (codes "OBJSENSE")) (bytes_eq word (codes "ROWS")) (bytes_eq word (codes "COLUMNS")) (bytes_eq word (codes "RHS"))
    (bytes_eq word (codes "BOUNDS")) (is_one_of first (codes "UP" ∷ codes "LO" ∷ codes "FX" ∷ codes "BV" ∷ [])) e
  where
    by : (a b c d f g : Bool)
        → (if a then Some kinds.Fields else (if b then Some kinds.Fields else
        (if c then Some kinds.Fields else (if d then Some kinds.Fields else
        (if f then earliest_fault (when (not g) kinds.BoundType ∷ Some kinds.Fields ∷ []) else Some kinds.Section))))) ≡ None → ⊥
    by false false false false true true e = absurd cc
    by _ _ _ _ _ _ e = absurd cc

few-or-many : (n : ℕ) → (n ≤ 5) ⊎ (6 ≤ n)
few-or-many n = by (nat_lt 5 n) refl
  where
    by : (b : Bool) → nat_lt 5 n ≡ b → (n ≤ 5) ⊎ (6 ≤ n)
    by true h = inr (let up = ltb-true 5 n h in omega arith)
    by false h = inl (ltb-false 5 n h)

first-of : (fields : LineFields) → field 0 (take 6 fields) ≡ field 0 fields
first-of [] = refl
first-of (f ∷ fields) = refl

-- the first fields of a data line have the fault of all
pub data-first : (before : Sections) (shown all : LineFields) → AreFirst shown all → fault before (Data shown) ≡ fault before (Data all)
data-first before shown all a = by (few-or-many (length all))
  where
    by : (length all ≤ 5) ⊎ (6 ≤ length all) → fault before (Data shown) ≡ fault before (Data all)
    by (inl few) = ap (λ fs. fault before (Data fs)) (a.front ∙ take_all 6 all (omega arith))
    by (inr many) =
        let six : length (take 6 all) ≡ 6 = length-take-le 6 all many in
        ap (λ fs. fault before (Data fs)) (a.front) ∙ many-fields before (take 6 all) (omega arith) ∙ ap (many_fault before.section) (first-of all)
        ∙ sym (many-fields before all many)

-- if they are no fault, they are all
pub data-whole : (before : Sections) (shown all : LineFields) → AreFirst shown all → fault before (Data shown) ≡ None → shown ≡ all
data-whole before shown all a none = by (few-or-many (length all))
  where
    by : (length all ≤ 5) ⊎ (6 ≤ length all) → shown ≡ all
    by (inl few) = a.front ∙ take_all 6 all (omega arith)
    by (inr many) = absurd (is-fault before.section (field 0 all) (sym (many-fields before all many) ∙ sym (data-first before shown all a) ∙ none))

-- ---- a data line of each section

pub tells-rows : (before : Sections) (f : LineFields) (r : Reading) → before.section ≡ codes "ROWS" → before.section ≡ word_of r.section
    → LinesTell (record (data_lines before) { rows = f ∷ before.rows }) r → ReadingTells (with_line before (Data f)) r
tells-rows before f r s w h = record { section = w; lines = rw s h }

pub tells-right-sides : (before : Sections) (f : LineFields) (r : Reading) → before.section ≡ codes "RHS"
    → before.section ≡ word_of r.section → LinesTell (record (data_lines before) { right_sides = f ∷ before.right_sides }) r
    → ReadingTells (with_line before (Data f)) r
tells-right-sides before f r s w h = record { section = w; lines = rw s h }

pub tells-bounds : (before : Sections) (f : LineFields) (r : Reading) → before.section ≡ codes "BOUNDS" → before.section ≡ word_of r.section
    → LinesTell (record (data_lines before) { bounds = f ∷ before.bounds }) r → ReadingTells (with_line before (Data f)) r
tells-bounds before f r s w h = record { section = w; lines = rw s h }
