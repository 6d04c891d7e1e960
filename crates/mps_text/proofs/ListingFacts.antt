-- The columns of a program as the pairs that their lines list.
use Rattle.std.proofs.Common.{◌≡◌, ℕ, zero, suc, ◌+◌, ◌<◌, Bool, true, false, List, [], ◌∷◌, length, map, refl, sym, ap, subst, ◌∙◌, arith, Some}
use Rattle.std.specs.Prelude.{bytes_eq, codes, flat_map, ℤ, slice_get}
use Rattle.std.specs.List.{list_any, AllByRecursion, IsDistinct, enumerate_from}
use Rattle.std.specs.Fmt.{signed_decimal}
use Rattle.std.proofs.lemmas.List.{map-append}
use Rattle.std.proofs.lemmas.Bool.{or_right}
use Rattle.program_rows.specs.Program.{Table, TableRow, TableColumn}
use Rattle.program_rows.specs.Parts.{AreEntries}
use Rattle.auction_terms.specs.LineFields.{LineFields, field}
use Rattle.program_rows.specs.MpsLines.{Data}
use Rattle.program_rows.proofs.EachFacts.{each, each_map}
use Rattle.mps_text.proofs.ColumnPhaseFacts.{ArePlain, Pair, pair_fields, same-name, columns_lines}
use Rattle.mps_text.proofs.PushedFacts.{push, push-append}
use Rattle.mps_text.proofs.ColumnsBackFacts.{Listed, plain_lines, IsFilled}
use Rattle.mps_text.proofs.EntriesBackFacts.{PlacesDiffer, pair_of}
use Rattle.program_rows.specs.ProgramNames.{row_name}
use Rattle.mps_text.proofs.FieldFacts.{row_fields, column_fields}

abbrev pub row_names : List TableRow → List (List ℕ)
row_names rows = map (λ r. r.name) rows

-- the cost and the entries
abbrev pub pairs_of : Table → TableColumn → List Pair
pairs_of p c = (p.objective, signed_decimal c.cost) ∷ map (pair_of (row_name p.rows)) c.entries

abbrev pub listed : Table → TableColumn → Listed
listed p c = (c.name, pairs_of p c)

abbrev pub all_listed : Table → List TableColumn → List Listed
all_listed p cs = map (listed p) cs

-- ---- names of rows by place

pub at-name : (P : List ℕ → Type 0) (rows : List TableRow) (j : ℕ) → AllByRecursion P (row_names rows) → j < length rows → P (row_name rows j)
at-name P [] j h lt = absurd (omega arith)
at-name P (r ∷ rows) zero h lt = h.0
at-name P (r ∷ rows) (suc j) h lt = at-name P rows j h.1 (omega arith)

pub places-differ : (rows : List TableRow) → IsDistinct bytes_eq (row_names rows) → PlacesDiffer (row_name rows) (length rows)
unfolding IsDistinct
places-differ [] d i j lt len = absurd (omega arith)
places-differ (r ∷ rows) d i zero lt len = absurd (omega arith)
places-differ (r ∷ rows) d zero (suc j) lt len = at-name (λ name. bytes_eq r.name name ≡ false) rows j d.0 (omega arith)
places-differ (r ∷ rows) d (suc i) (suc j) lt len = places-differ rows d.1 i j (omega arith) (omega arith)

-- each row is at its place
pub names-at : (all : List TableRow) (k : ℕ) (rows : List TableRow) → ((i : ℕ) → slice_get all (k + i) ≡ slice_get rows i)
    → AllByRecursion (λ r. row_name all r.0 ≡ r.1.name) (enumerate_from k rows)
names-at all k [] h = tt
names-at all k (r ∷ rows) h =
    let here : slice_get all k ≡ Some r = ap (slice_get all) (omega arith) ∙ h 0 in
    (rw here refl, names-at all (k + 1) rows (λ i. ap (slice_get all) (omega arith) ∙ h (suc i)))

-- ---- the lines of the columns

entry-lines : (rows : List TableRow) (name : List ℕ) (es : List (ℕ × ℤ))
    → map (λ (e : ℕ × ℤ). name ∷ row_name rows e.0 ∷ signed_decimal e.1 ∷ []) es ≡ map (pair_fields name) (map (pair_of (row_name rows)) es)
entry-lines rows name [] = refl
entry-lines rows name (e ∷ es) = rw (entry-lines rows name es) refl

pub column-lines : (p : Table) (cs : List TableColumn) → flat_map (column_fields p) cs ≡ plain_lines (all_listed p cs)
column-lines p [] = refl
column-lines p (c ∷ cs) = rw (entry-lines p.rows c.name c.entries, column-lines p cs) refl

pub data-lines : (cs : List Listed) → columns_lines cs ≡ map Data (plain_lines cs)
data-lines [] = refl
data-lines (c ∷ cs) = rw (data-lines cs) (sym (map-append Data (map (pair_fields c.0) c.1) (plain_lines cs)))

pub names-listed : (p : Table) (cs : List TableColumn) → map (λ c. c.0) (all_listed p cs) ≡ map (λ c. c.name) cs
names-listed p [] = refl
names-listed p (c ∷ cs) = ap (λ (w : List (List ℕ)). c.name ∷ w) (names-listed p cs)

pub all-filled : (p : Table) (cs : List TableColumn) → AllByRecursion (λ c. IsFilled c.1) (all_listed p cs)
all-filled p cs = each_map (λ (c : Listed). IsFilled c.1) (listed p) cs (each (λ c. IsFilled (pairs_of p c)) cs (λ c. tt))

-- ---- no row is named as a marker

abbrev pub IsPlainName : List ℕ → Type 0
IsPlainName name = bytes_eq name (codes "'MARKER'") ≡ false

-- what holds of the names of rows holds of those of entries
entries-named : (P : List ℕ → Type 0) (rows : List TableRow) (es : List (ℕ × ℤ)) → AllByRecursion P (row_names rows)
    → AreEntries (length rows) es → AllByRecursion (λ pair. P pair.0) (map (pair_of (row_name rows)) es)
entries-named P rows [] h legal = tt
entries-named P rows (e ∷ es) h legal = (at-name P rows e.0 h legal.0, entries-named P rows es h legal.3)

pub all-plain : (p : Table) (cs : List TableColumn) → AllByRecursion IsPlainName (p.objective ∷ row_names p.rows)
    → AllByRecursion (λ c. AreEntries (length p.rows) c.entries) cs → AllByRecursion (λ c. ArePlain c.1) (all_listed p cs)
all-plain p [] plain legal = tt
all-plain p (c ∷ cs) plain legal = ((plain.0, entries-named IsPlainName p.rows c.entries plain.1 legal.0), all-plain p cs plain legal.1)

-- ---- the rows of a column differ

after-entry : (rows : List TableRow) (i : ℕ) (es : List (ℕ × ℤ)) → PlacesDiffer (row_name rows) (length rows)
    → AllByRecursion (λ later. i < later.0) es → AreEntries (length rows) es
    → AllByRecursion (λ other. bytes_eq (row_name rows i) other ≡ false) (map (λ pair. pair.0) (map (pair_of (row_name rows)) es))
after-entry rows i [] differ h legal = tt
after-entry rows i (e ∷ es) differ h legal = (differ i e.0 h.0 legal.0, after-entry rows i es differ h.1 legal.3)

entries-differ : (rows : List TableRow) (es : List (ℕ × ℤ)) → PlacesDiffer (row_name rows) (length rows) → AreEntries (length rows) es
    → IsDistinct bytes_eq (map (λ pair. pair.0) (map (pair_of (row_name rows)) es))
unfolding IsDistinct
entries-differ rows [] differ legal = tt
entries-differ rows (e ∷ es) differ legal = (after-entry rows e.0 es differ legal.2 legal.3, entries-differ rows es differ legal.3)

pub pairs-differ : (p : Table) (c : TableColumn) → IsDistinct bytes_eq (p.objective ∷ row_names p.rows)
    → AreEntries (length p.rows) c.entries → IsDistinct bytes_eq (map (λ pair. pair.0) (pairs_of p c))
unfolding IsDistinct
pairs-differ p c d legal = (
  each_map (λ other. bytes_eq p.objective other ≡ false) (λ pair. pair.0) (map (pair_of (row_name p.rows))
      c.entries) (entries-named (λ other. bytes_eq p.objective other ≡ false) p.rows c.entries d.0 legal),
  entries-differ p.rows c.entries
      (places-differ p.rows d.1) legal,
)

pub all-pairs-differ : (p : Table) (cs : List TableColumn) → IsDistinct bytes_eq (p.objective ∷ row_names p.rows)
    → AllByRecursion (λ c. AreEntries (length p.rows) c.entries) cs
    → AllByRecursion (λ c. IsDistinct bytes_eq (map (λ pair. pair.0) c.1)) (all_listed p cs)
all-pairs-differ p [] d legal = tt
all-pairs-differ p (c ∷ cs) d legal = (pairs-differ p c d legal.0, all-pairs-differ p cs d legal.1)

-- ---- what is named by lines

pub any-keeps : (q : LineFields → Bool) (xs before : List LineFields) → list_any q before ≡ true → list_any q (push xs before) ≡ true
any-keeps q [] before h = h
any-keeps q (x ∷ xs) before h = any-keeps q xs (x ∷ before) (or_right (q x) (list_any q before) h)

pub rows-declared : (rows : List TableRow) (before : List LineFields)
    → AllByRecursion (λ name. list_any (λ row. bytes_eq name (field 1 row)) (push (map row_fields rows) before) ≡ true) (row_names rows)
rows-declared [] before = tt
rows-declared (r ∷ rows) before = (
  any-keeps (λ row. bytes_eq r.name (field 1 row)) (map row_fields rows) (row_fields r ∷ before) (rw (same-name r.name)
      refl),
  rows-declared rows (row_fields r ∷ before),
)

column-named : (name : List ℕ) (pairs : List Pair) (before : List LineFields) → IsFilled pairs
    → list_any (λ f. bytes_eq name (field 0 f)) (push (map (pair_fields name) pairs) before) ≡ true
column-named name [] before f = absurd f
column-named name (pair ∷ pairs) before f =
    any-keeps (λ q. bytes_eq name (field 0 q)) (map (pair_fields name) pairs) (pair_fields name pair ∷ before) (rw (same-name name) refl)

pub columns-named : (p : Table) (cs : List TableColumn) (before : List LineFields)
    → AllByRecursion (λ c. list_any (λ f. bytes_eq c.name (field 0 f)) (push (plain_lines (all_listed p cs)) before) ≡ true) cs
columns-named p [] before = tt
columns-named p (c ∷ cs) before =
    let chunk = map (pair_fields c.name) (pairs_of p c) in
    let rest = plain_lines (all_listed p cs) in
    subst (λ (w : List LineFields). AllByRecursion (λ q. list_any (λ f. bytes_eq q.name (field 0 f)) w ≡ true) (c ∷ cs)) (sym (push-append chunk rest before)) (
      any-keeps (λ q. bytes_eq c.name (field 0 q)) rest (push chunk before) (column-named c.name (pairs_of p c) before
          tt),
      columns-named p cs (push chunk before),
    )
