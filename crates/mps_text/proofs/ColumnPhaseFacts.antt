-- The lines of COLUMNS are read without a fault.
use Rattle.std.proofs.Common.{◌≡◌, ℕ, true, false, List, [], ◌∷◌, map, refl, ◌∙◌, None}
use Rattle.std.specs.Prelude.{bytes_eq, codes, flat_map}
use Rattle.std.specs.List.{list_any, AllByRecursion, IsDistinct}
use Rattle.std.proofs.lemmas.Slice.Eq.{bytes_eq-Decides}
use Rattle.auction_terms.proofs.OfferFacts.{all_agree}
use Rattle.auction_terms.specs.LineFields.{LineFields}
use Rattle.program_rows.specs.MpsLines.{Line, Data}
use Rattle.program_rows.specs.MpsSections.{Sections, with_line}
use Rattle.program_rows.specs.MpsFaults.{fault, is_declared, is_split, number_fault}
use Rattle.mps_text.proofs.BlockFacts.{onto, AreRead, AreRead-append, section-onto}
use Rattle.mps_text.proofs.RowPhaseFacts.{others_kept}
use Rattle.program_rows.proofs.NamedItemFacts.{bytes_flip}
use Rattle.auction_terms.specs.Decimals.{number}
use Rattle.program_rows.specs.MpsProgram.{column_pairs, is_column}

-- a row and a number of a column
abbrev pub Pair : Type 0
Pair = List ℕ × List ℕ

abbrev pub pair_fields : List ℕ → Pair → LineFields
pair_fields column pair = column ∷ pair.0 ∷ pair.1 ∷ []

-- this pair of the column can be read
pub record IsReady (before : Sections) (column : List ℕ) (pair : Pair) : Type 0 where
  pub declared : is_declared before.rows pair.0 ≡ true
  pub plain : bytes_eq pair.0 (codes "'MARKER'") ≡ false
  pub new : list_any (λ other. bytes_eq pair.0 other.0) (column_pairs before.columns column) ≡ false
  pub read : number_fault (number pair.1) ≡ None

pub same-name : (name : List ℕ) → bytes_eq name name ≡ true
same-name name = (bytes_eq-Decides name name).1 refl

pair-read : (before : Sections) (column : List ℕ) (pair : Pair) → before.section ≡ codes "COLUMNS" → is_split before.columns column ≡ false
    → IsReady before column pair → fault before (Data (pair_fields column pair)) ≡ None
unfolding fault
pair-read before column pair s whole h = rw (s, h.plain, whole, h.declared, h.new, h.read) refl

-- the next line of the column goes on with it
goes_on : (before : Sections) (column : List ℕ) (pair : Pair) → before.section ≡ codes "COLUMNS"
    → bytes_eq pair.0 (codes "'MARKER'") ≡ false → is_split (with_line before (Data (pair_fields column pair))).columns column ≡ false
goes_on before column pair s plain = rw (s, plain, same-name column) refl

still_ready : (before : Sections) (column : List ℕ) (pair other : Pair) → before.section ≡ codes "COLUMNS"
    → bytes_eq pair.0 (codes "'MARKER'") ≡ false → bytes_eq other.0 pair.0 ≡ false → IsReady before column other
    → IsReady (with_line before (Data (pair_fields column pair))) column other
still_ready before column pair other s plain differ h = record {
  declared = rw s h.declared;
  plain = h.plain;
  new = rw (s, plain, same-name column, differ) h.new;
  read = h.read;
}

abbrev AreReady : Sections → List ℕ → List Pair → Type 0
AreReady before column pairs = AllByRecursion (IsReady before column) pairs

-- the lines of one column
pub pairs-read : (before : Sections) (column : List ℕ) (pairs : List Pair) → before.section ≡ codes "COLUMNS"
    → is_split before.columns column ≡ false → IsDistinct bytes_eq (map (λ pair. pair.0) pairs) → AreReady before column pairs
    → AreRead before (map Data (map (pair_fields column) pairs))
unfolding IsDistinct
pairs-read before column [] s whole differ h = tt
pairs-read before column (pair ∷ pairs) s whole differ h = (
  pair-read before column pair s whole h.0,
  refl,
  pairs-read (with_line before (Data (pair_fields column pair))) column pairs s (goes_on before column pair s h.0.plain) differ.1
      (others_kept (λ other. other.0) pair.0 (IsReady before column) (IsReady (with_line before (Data (pair_fields column pair))) column)
      pairs (λ other d k. still_ready before column pair other s h.0.plain (bytes_flip pair.0 other.0 d) k) differ.0 h.1),
)

-- a column with its pairs, the cost first
pub record IsNew (before : Sections) (column : List ℕ × List Pair) : Type 0 where
  pub name : is_column before.columns column.0 ≡ false
  pub ready : AllByRecursion (IsReady before column.0) column.1
  pub differ : IsDistinct bytes_eq (map (λ pair. pair.0) column.1)

not-split : (before : Sections) (column : List ℕ) → is_column before.columns column ≡ false → is_split before.columns column ≡ false
not-split before column h = rw h refl

other_ready : (before : Sections) (name column : List ℕ) (pair : Pair) (pairs : List Pair) → before.section ≡ codes "COLUMNS"
    → bytes_eq pair.0 (codes "'MARKER'") ≡ false → bytes_eq column name ≡ false
    → AreReady before column pairs → AreReady (with_line before (Data (pair_fields name pair))) column pairs
other_ready before name column pair pairs s plain differ h =
    all_agree (IsReady before column) (IsReady (with_line before (Data (pair_fields name pair))) column) pairs (λ other r. record {
      declared = rw s r.declared;
      plain = r.plain;
      new = rw (s, plain, differ) r.new;
      read = r.read;
    }) h

still_new : (before : Sections) (name : List ℕ) (pair : Pair) (column : List ℕ × List Pair) → before.section ≡ codes "COLUMNS"
    → bytes_eq pair.0 (codes "'MARKER'") ≡ false → bytes_eq column.0 name ≡ false → IsNew before column
    → IsNew (with_line before (Data (pair_fields name pair))) column
still_new before name pair column s plain differ h = record {
  name = rw (s, plain, differ) h.name;
  ready = other_ready before name column.0 pair column.1 s plain differ h.ready;
  differ = h.differ;
}

abbrev pub ArePlain : List Pair → Type 0
ArePlain pairs = AllByRecursion (λ pair. bytes_eq pair.0 (codes "'MARKER'") ≡ false) pairs

-- the lines of a column leave another column new
new_after : (before : Sections) (name : List ℕ) (pairs : List Pair) (column : List ℕ × List Pair) → before.section ≡ codes "COLUMNS"
    → ArePlain pairs → bytes_eq column.0 name ≡ false → IsNew before column
    → IsNew (onto (map Data (map (pair_fields name) pairs)) before) column
new_after before name [] column s h differ n = n
new_after before name (pair ∷ pairs) column s h differ n = new_after (with_line before (Data (pair_fields name pair))) name pairs column s
    h.1 differ (still_new before name pair column s h.0 differ n)

abbrev pub columns_lines : List (List ℕ × List Pair) → List Line
columns_lines columns = flat_map (λ c. map Data (map (pair_fields c.0) c.1)) columns

-- the lines of all columns
pub columns-read : (before : Sections) (columns : List (List ℕ × List Pair)) → before.section ≡ codes "COLUMNS"
    → IsDistinct bytes_eq (map (λ c. c.0) columns) → AllByRecursion (IsNew before) columns → AreRead before (columns_lines columns)
unfolding IsDistinct
columns-read before [] s differ n = tt
columns-read before (c ∷ columns) s differ n =
    let lines = map Data (map (pair_fields c.0) c.1) in
    AreRead-append before lines (columns_lines columns)
    (pairs-read before c.0 c.1 s (not-split before c.0 n.0.name) n.0.differ n.0.ready)
    (columns-read (onto lines before) columns (section-onto (map (pair_fields c.0) c.1) before ∙ s) differ.1
    (others_kept (λ q. q.0) c.0 (IsNew before) (IsNew (onto lines before)) columns
    (λ q d k. new_after before c.0 c.1 q s (all_agree (IsReady before c.0) (λ pair. bytes_eq pair.0 (codes "'MARKER'") ≡ false) c.1
    (λ pair h. h.plain) n.0.ready) (bytes_flip c.0 q.0 d) k) differ.0 n.1))
