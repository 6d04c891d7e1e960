-- The lines of a whole text give the program back.
use Rattle.std.proofs.Common.{◌≡◌, ℕ, ◌+◌, Bool, true, false, not, List, [], ◌∷◌, length, map, refl, sym, ap, subst, ◌∙◌, arith, Option, Some, None}
use Rattle.std.specs.Prelude.{bytes_eq, codes, find, flat_map, position, pos, option_map, unwrap_or, slice_get, if◌then◌else◌, filter, nat_lt}
use Rattle.std.specs.List.{AllByRecursion, IsDistinct, enumerate_from, position_or_len}
use Rattle.std.proofs.lemmas.List.{reverse-reverse}
use Rattle.std.proofs.lemmas.Bool.{false_from_ne_true, ltb-true}
use Rattle.program_rows.specs.Program.{Table, TableRow, TableColumn}
use Rattle.program_rows.specs.Parts.{IsProgram, AreEntries}
use Rattle.auction_terms.specs.LineFields.{LineFields}
use Rattle.program_rows.specs.MpsSections.{Sections}
use Rattle.program_rows.specs.MpsProgram.{column_lines, first_free, columns_named, table_column, table_rows, program, lower}
use Rattle.program_rows.specs.MpsProgram.{upper, column_pairs, number_beside, line_right_sides}
use Rattle.program_rows.specs.MpsFaults.{is_binary, stands_in_integers}
use Rattle.program_rows.specs.Legal.{IsWritable, IsSmall}
use Rattle.program_rows.proofs.EachFacts.{each}
use Rattle.mps_text.proofs.SmallFacts.{small_costs, small_entries}
use Rattle.mps_text.proofs.NumberFacts.{number-signed_decimal}
use Rattle.program_rows.proofs.NamedItemFacts.{bytes_flip}
use Rattle.mps_text.proofs.ColumnPhaseFacts.{same-name}
use Rattle.mps_text.proofs.RowsBackFacts.{rows_back}
use Rattle.mps_text.proofs.PushedFacts.{push, push-onto_none}
use Rattle.mps_text.proofs.ColumnsBackFacts.{look, looked, plain_lines, pairs_in, named-once, names-once, pairs-found, AreUnlisted, AreUnnamed}
use Rattle.mps_text.proofs.BoundsBackFacts.{bounds-found, none-set, bounds-back, binary-back, sets, lower_types, upper_types}
use Rattle.mps_text.proofs.EntriesBackFacts.{worth, pair_of, entries-back}
use Rattle.mps_text.proofs.ListingFacts.{row_names, pairs_of, all_listed, places-differ, names-at, names-listed, all-filled, all-pairs-differ}
use Rattle.program_rows.specs.ProgramNames.{row_name}
use Rattle.program_rows.specs.declared.mps_fault_kind.MpsFaultKind.TheVariants.{NotBinary}
use Rattle.program_rows.specs.declared.column.Bounds.TheVariants.{One, Zero, ZeroOrOne}
use Rattle.std.specs.Ordering.{int_eq}
use Rattle.mps_text.proofs.FieldFacts.{row_fields, right_side_fields, bound_fields}

abbrev rows_in : Sections → List TableRow
rows_in before = table_rows before.rows (flat_map line_right_sides before.right_sides)

abbrev objective_in : Sections → List ℕ
objective_in before = unwrap_or (first_free before.rows) []

-- the lines before ENDATA list this program
pub record Lists (before : Sections) (p : Table) : Type 0 where
  pub rows : before.rows ≡ push ((codes "N" ∷ p.objective ∷ []) ∷ map row_fields p.rows) []
  pub columns : column_lines before.columns ≡ push (plain_lines (all_listed p p.columns)) []
  pub stand : AllByRecursion (λ c. stands_in_integers c.name before.columns ≡ true) p.columns
  pub sides : before.right_sides ≡ push (map right_side_fields p.rows) []
  pub bounds : before.bounds ≡ push (map bound_fields p.columns) []

-- ---- rows and objective

pub objective-back : (before : Sections) (p : Table) → before.rows ≡ push ((codes "N" ∷ p.objective ∷ []) ∷ map row_fields p.rows) []
    → first_free before.rows ≡ Some p.objective
objective-back before p h = rw (
  h,
  push-onto_none ((codes "N" ∷ p.objective ∷ []) ∷ map row_fields
      p.rows),
  reverse-reverse ((codes "N" ∷ p.objective ∷ []) ∷ map row_fields p.rows),
) refl

pub rows-listed : (before : Sections) (p : Table) → IsProgram p → IsWritable p → Lists before p → rows_in before ≡ p.rows
unfolding IsDistinct
rows-listed before p legal parsed h =
    rows_back before (codes "N" ∷ p.objective ∷ []) p.rows refl (h.rows ∙ push-onto_none
    ((codes "N" ∷ p.objective ∷ []) ∷ map row_fields p.rows)) (h.sides
    ∙ push-onto_none (map right_side_fields p.rows)) legal.rows_differ.1 parsed.right_sides

-- ---- columns

unnamed : (p : Table) (cs : List TableColumn) → AreUnnamed [] (all_listed p cs)
unnamed p cs = each _ (all_listed p cs) (λ c. refl)

unlisted : (p : Table) (cs : List TableColumn) → AreUnlisted [] (all_listed p cs)
unlisted p cs = each _ (all_listed p cs) (λ c. refl)

pub names-back : (before : Sections) (p : Table) → IsProgram p → Lists before p → columns_named before.columns ≡ map (λ c. c.name) p.columns
names-back before p legal h =
    named-once before.columns ∙ rw h.columns (names-once (all_listed p p.columns) []
    (subst (IsDistinct bytes_eq) (sym (names-listed p p.columns)) legal.columns_differ) (all-filled p p.columns) (unnamed p p.columns)
    ∙ names-listed p p.columns)

-- where a pair of a column is found
abbrev IsFound : Sections → Table → TableColumn → Type 0
IsFound before p c = (row : List ℕ) → look row (column_pairs before.columns c.name) ≡ look row (pairs_of p c)

from-listed : (before : Sections) (p : Table) (lines : List LineFields) (cs : List TableColumn) → column_lines before.columns ≡ lines
    → AllByRecursion (λ c. pairs_in lines c.0 ≡ push c.1 []) (all_listed p cs)
    → AllByRecursion (λ c. IsDistinct bytes_eq (map (λ pair. pair.0) c.1)) (all_listed p cs) → AllByRecursion (IsFound before p) cs
from-listed before p lines [] e h d = tt
from-listed before p lines (c ∷ cs) e h d = (
  λ row. ap (λ (w : List LineFields). look row (pairs_in w c.name)) e ∙ ap (look row) h.0 ∙ looked row (pairs_of p
      c) [] d.0 refl,
  from-listed before p lines cs e h.1 d.1,
)

all-found : (before : Sections) (p : Table) → IsProgram p → Lists before p → AllByRecursion (IsFound before p) p.columns
all-found before p legal h =
    from-listed before p (push (plain_lines (all_listed p p.columns)) []) p.columns h.columns
    (pairs-found (all_listed p p.columns) [] (subst (IsDistinct bytes_eq) (sym (names-listed p p.columns)) legal.columns_differ) (unlisted p p.columns))
    (all-pairs-differ p p.columns legal.rows_differ legal.entries)

coefficient-found : (before : Sections) (p : Table) (c : TableColumn) (row : List ℕ) → IsFound before p c
    → number_beside (column_pairs before.columns c.name) row ≡ worth (look row (pairs_of p c))
coefficient-found before p c row h = ap worth (h row)

cost-back : (before : Sections) (p : Table) (c : TableColumn) → IsFound before p c → IsSmall c.cost
    → number_beside (column_pairs before.columns c.name) p.objective ≡ c.cost
cost-back before p c h small = coefficient-found before p c p.objective h ∙ rw (same-name p.objective, number-signed_decimal c.cost small) refl

-- the coefficients of a column, row by row
row-by-row : (before : Sections) (p : Table) (c : TableColumn) (k : ℕ) (rows : List TableRow) → IsFound before p c
    → AllByRecursion (λ r. row_name p.rows r.0 ≡ r.1.name) (enumerate_from k rows)
    → AllByRecursion (λ other. bytes_eq p.objective other ≡ false) (row_names rows)
    → AllByRecursion (λ r. number_beside (column_pairs before.columns c.name) r.1.name ≡ worth
    (look (row_name p.rows r.0) (map (pair_of (row_name p.rows)) c.entries))) (enumerate_from k rows)
row-by-row before p c k [] h at differ = tt
row-by-row before p c k (r ∷ rows) h at differ =
    (coefficient-found before p c r.name h ∙ rw (bytes_flip p.objective r.name differ.0, at.0) refl, row-by-row before p c (k + 1) rows h at.1 differ.1)

pub entries-listed : (before : Sections) (p : Table) (c : TableColumn) → IsFound before p c → rows_in before ≡ p.rows
    → IsDistinct bytes_eq (p.objective ∷ row_names p.rows) → AreEntries (length p.rows) c.entries
    → AllByRecursion (λ e. IsSmall e.1) c.entries
    → filter (λ e. not (int_eq e.1 (pos 0))) (map (λ r. (r.0, number_beside (column_pairs before.columns c.name) r.1.name))
    (enumerate_from 0 (rows_in before))) ≡ c.entries
unfolding IsDistinct
entries-listed before p c h same differ legal small =
    rw same (entries-back (row_name p.rows) (length p.rows) (λ r. number_beside (column_pairs before.columns c.name) r.1.name) 0 p.rows
    c.entries (places-differ p.rows differ.1) (omega arith) legal (each _ c.entries (λ e. omega arith)) small
    (row-by-row before p c 0 p.rows h (names-at p.rows 0 p.rows (λ i. ap (λ (n : ℕ). slice_get p.rows n) (omega arith))) differ.0))

column-from : (before : Sections) (c : TableColumn)
    → (if int_eq (lower before.bounds c.name) (pos 1) then One else
    (if int_eq (unwrap_or (upper before.bounds c.name) (pos 1)) (pos 0) then Zero else ZeroOrOne)) ≡ c.bounds → number_beside
    (column_pairs before.columns c.name) (objective_in before) ≡ c.cost
    → filter (λ e. not (int_eq e.1 (pos 0))) (map (λ r. (r.0, number_beside (column_pairs before.columns c.name) r.1.name))
    (enumerate_from 0 (rows_in before))) ≡ c.entries → table_column before c.name ≡ c
column-from before c b cost es = λ i. record { name = c.name; bounds = b i; cost = cost i; entries = es i }

-- the one line of BOUNDS of a column decides
abbrev IsSet : Sections → List (List ℕ) → TableColumn → Type 0
IsSet before types c = find (sets types c.name) before.bounds ≡ find (sets types c.name) (bound_fields c ∷ [])

all-set : (before : Sections) (p : Table) (types : List (List ℕ)) → IsProgram p → Lists before p → AllByRecursion (IsSet before types) p.columns
all-set before p types legal h =
    subst (λ (w : List LineFields). AllByRecursion (λ c. find (sets types c.name) w ≡ find (sets types c.name) (bound_fields c ∷ []))
    p.columns) (sym h.bounds) (bounds-found types p.columns [] legal.columns_differ (none-set types p.columns))

columns-from : (before : Sections) (p : Table) (cs : List TableColumn) → objective_in before ≡ p.objective → rows_in before ≡ p.rows
    → IsDistinct bytes_eq (p.objective ∷ row_names p.rows)
    → AllByRecursion (IsFound before p) cs → AllByRecursion (IsSet before lower_types) cs → AllByRecursion (IsSet before upper_types) cs
    → AllByRecursion (λ c. AreEntries (length p.rows) c.entries) cs
    → AllByRecursion (λ c. IsSmall c.cost) cs → AllByRecursion (λ c. AllByRecursion (λ e. IsSmall e.1) c.entries) cs
    → map (table_column before) (map (λ c. c.name) cs) ≡ cs
columns-from before p [] o same differ found low high legal cost small = refl
columns-from before p (c ∷ cs) o same differ found low high legal cost small =
    let here = column-from before c (bounds-back before c.name c.bounds low.0 high.0)
    (ap (number_beside (column_pairs before.columns c.name)) o ∙ cost-back before p c found.0 cost.0)
    (entries-listed before p c found.0 same differ legal.0 small.0) in
    ap (λ (w : TableColumn). w ∷ map (table_column before) (map (λ q. q.name) cs)) here
    ∙ ap (λ (w : List TableColumn). c ∷ w) (columns-from before p cs o same differ found.1 low.1 high.1 legal.1 cost.1 small.1)

pub program-back : (before : Sections) (p : Table) → IsProgram p → IsWritable p → Lists before p → program before ≡ p
unfolding program
program-back before p legal parsed h =
    let o : objective_in before ≡ p.objective = ap (λ (w : Option (List ℕ)). unwrap_or w []) (objective-back before p h.rows) in
    let rs = rows-listed before p legal parsed h in
    let cs = ap (map (table_column before)) (names-back before p legal h)
    ∙ columns-from before p p.columns o rs legal.rows_differ (all-found before p legal h) (all-set before p lower_types legal h)
    (all-set before p upper_types legal h) legal.entries (small_costs p.columns parsed.numbers) (small_entries p.columns parsed.numbers)
    in
    (λ i. record { objective = o i; rows = rs i; columns = cs i })

-- ---- all columns are binary

none-first : (before : Sections) (cs : List TableColumn) → AllByRecursion (λ c. stands_in_integers c.name before.columns ≡ true) cs
    → AllByRecursion (IsSet before lower_types) cs → AllByRecursion (IsSet before upper_types) cs
    → position_or_len (λ name. not (is_binary before name)) (map (λ c. c.name) cs) ≡ length (map (λ c. c.name) cs)
none-first before [] s low high = refl
none-first before (c ∷ cs) s low high = rw (binary-back before c.name c.bounds s.0 low.0 high.0, none-first before cs s.1 low.1 high.1) (omega arith)

not-below : (n : ℕ) → nat_lt n n ≡ false
not-below n = false_from_ne_true _ (λ e. let lt = ltb-true n n e in absurd (omega arith))

none-passes : (p : List ℕ → Bool) (xs : List (List ℕ)) → position_or_len p xs ≡ length xs → position p xs ≡ None
none-passes p xs h = rw (h, not-below (length xs)) refl

pub all-binary : (before : Sections) (p : Table) → IsProgram p → Lists before p
    → option_map NotBinary (position (λ column. not (is_binary before column)) (columns_named before.columns)) ≡ None
all-binary before p legal h =
    rw (
      names-back before p legal h,
      none-passes (λ name. not (is_binary before name)) (map (λ c. c.name) p.columns) (none-first before
          p.columns h.stand (all-set before p lower_types legal h) (all-set before p upper_types legal h)),
    ) refl
