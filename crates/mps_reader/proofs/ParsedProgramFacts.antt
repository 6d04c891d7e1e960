-- The program at the end is that of the lines.
use Rattle.std.proofs.Common.{◌≡◌, ℕ, suc, ◌+◌, Bool, true, false, List, [], ◌∷◌, length, map, refl, sym, ap, subst, ◌∙◌, arith, Option, Some, None, ℤ, pos}
use Rattle.std.specs.Prelude.{filter, not, is_some, unwrap_or, option_map, if◌then◌else◌, flat_map}
use Rattle.std.specs.List.{AllByRecursion, enumerate_from}
use Rattle.std.specs.Ordering.{int_eq}
use Rattle.program_rows.specs.MpsSections.{Sections}
use Rattle.program_rows.specs.MpsProgram.{program, table_rows, table_column, columns_named, first_free, lower, upper}
use Rattle.program_rows.specs.MpsProgram.{column_pairs, number_beside, line_right_sides}
use Rattle.program_rows.specs.Bounded.{bounded}
use Rattle.program_rows.specs.Program.{TableRow, TableColumn}
use Rattle.program_rows.specs.Parts.{shown_row}
use Rattle.program_rows.specs.declared.column.Bounds.{Bounds}
use Rattle.program_rows.specs.declared.column.Bounds.TheVariants.{ZeroOrOne, Zero, One}
use Rattle.mps_reader.specs.inside.Columns.{entries_at}
use Rattle.mps_reader.specs.inside.Rows.{option_now, declared_row_names}
use Rattle.mps_reader.specs.inside.Agreeing.{ReadingFits}
use Rattle.mps_reader.specs.inside.States.{state_bounds, upper_bounds}
use Rattle.mps_reader.specs.inside.Tracking.{ReadingTells, state_values, parsed_values, gathered_column, bit}
use Rattle.mps_reader.specs.declared.tables.ColumnState.{ColumnState}
use Rattle.mps_reader.specs.declared.tables.Reading.{Reading}
use Rattle.mps_reader.proofs.RowStepFacts.{names-shown}
use Rattle.mps_reader.proofs.FitFacts.{done-names}

entries-enumerated : (k : ℕ) (f : List ℕ → ℤ) (rs : List TableRow)
    → filter (λ e. not (int_eq e.1 (pos 0))) (map (λ r. (r.0, f r.1.name)) (enumerate_from k rs)) ≡ entries_at k f (map (λ (r : TableRow). r.name) rs)
entries-enumerated k f [] = refl
entries-enumerated k f (r ∷ rs) =
    by (int_eq (f r.name) (pos 0)) refl (subst
    (λ m. filter (λ e. not (int_eq e.1 (pos 0))) (map (λ q. (q.0, f q.1.name)) (enumerate_from m rs))
    ≡ entries_at (suc k) f (map (λ (q : TableRow). q.name) rs)) next (entries-enumerated (suc k) f rs))
  where
    next : suc k ≡ k + 1
    next = omega arith

    by : (b : Bool) → int_eq (f r.name) (pos 0) ≡ b → filter (λ e. not (int_eq e.1 (pos 0)))
        (map (λ q. (q.0, f q.1.name)) (enumerate_from (k + 1) rs)) ≡ entries_at (suc k) f (map (λ (q : TableRow). q.name) rs)
        → filter (λ e. not (int_eq e.1 (pos 0))) (map (λ q. (q.0, f q.1.name)) (enumerate_from k (r ∷ rs)))
        ≡ entries_at k f (r.name ∷ map (λ (q : TableRow). q.name) rs)
    by true e more = rw e more
    by false e more = rw e (ap (λ es. (k, f r.name) ∷ es) more)

values-bounds : (s : ColumnState)
    → state_bounds s ≡ (if int_eq (bit s.lower) (pos 1) then One else (if int_eq (unwrap_or (option_map bit s.upper) (pos 1)) (pos 0) then Zero else ZeroOrOne))
values-bounds s = by s.lower s.upper
  where
    by : (l : Bool) (u : Option Bool) → (if l then One else upper_bounds u)
        ≡ (if int_eq (bit l) (pos 1) then One else (if int_eq (unwrap_or (option_map bit u) (pos 1)) (pos 0) then Zero else ZeroOrOne))
    by false None = refl
    by false (Some true) = refl
    by _ _ = refl

bounds-parsed : (before : Sections) (s : ColumnState) (n : List ℕ) → state_values s ≡ parsed_values before.columns before.bounds n
    → state_bounds s ≡ (if int_eq (lower before.bounds n) (pos 1) then One else
    (if int_eq (unwrap_or (upper before.bounds n) (pos 1)) (pos 0) then Zero else ZeroOrOne))
bounds-parsed before s n h =
    values-bounds s ∙ ap (λ (v : Bool × ℤ × Option ℤ). if int_eq v.1 (pos 1) then One else
    (if int_eq (unwrap_or v.2 (pos 1)) (pos 0) then Zero else ZeroOrOne)) h

column-parsed : (before : Sections) (o : Option (List ℕ)) (names : List (List ℕ)) (k : TableColumn) (s : ColumnState) (n : List ℕ)
    → o ≡ first_free before.rows
    → names ≡ map (λ (r : TableRow). r.name) (table_rows before.rows (flat_map line_right_sides before.right_sides))
    → k ≡ gathered_column o names before.columns k.name → k.name ≡ n
    → state_values s ≡ parsed_values before.columns before.bounds n → record k { bounds = state_bounds s } ≡ table_column before n
column-parsed before o names k s n objective-is names-is parsed named h =
    ap (λ (c : TableColumn). record c { bounds = state_bounds s }) parsed
    ∙ ap (λ m. record {
      name = m;
      bounds = state_bounds s;
      cost = number_beside (column_pairs before.columns m) (unwrap_or o []);
      entries =
          entries_at 0 (number_beside (column_pairs before.columns m)) names;
    }) named
    ∙ ap (λ b. record {
      name = n;
      bounds = b;
      cost = number_beside (column_pairs before.columns n) (unwrap_or o []);
      entries =
          entries_at 0 (number_beside (column_pairs before.columns n)) names;
    }) (bounds-parsed before s n h)
    ∙ ap (λ q. record {
      name = n;
      bounds =
          (if int_eq (lower before.bounds n) (pos 1) then One else (if int_eq (unwrap_or (upper before.bounds n) (pos 1)) (pos 0) then Zero else
          ZeroOrOne));
      cost = number_beside (column_pairs before.columns n) (unwrap_or q []);
      entries =
          entries_at 0 (number_beside (column_pairs before.columns n)) names;
    }) objective-is
    ∙ ap (λ es. record {
      name = n;
      bounds =
          (if int_eq (lower before.bounds n) (pos 1) then One else (if int_eq (unwrap_or (upper before.bounds n) (pos 1)) (pos 0) then Zero else
          ZeroOrOne));
      cost = number_beside (column_pairs before.columns n) (unwrap_or (first_free before.rows) []);
      entries = es;
    })
    (ap (entries_at 0 (number_beside (column_pairs before.columns n))) names-is
    ∙ sym (entries-enumerated 0 (number_beside (column_pairs before.columns n)) (table_rows before.rows (flat_map line_right_sides before.right_sides))))

columns-parsed : (before : Sections) (o : Option (List ℕ)) (names : List (List ℕ)) (ks : List TableColumn) (ss : List ColumnState) (ns : List (List ℕ))
    → o ≡ first_free before.rows
    → names ≡ map (λ (r : TableRow). r.name) (table_rows before.rows (flat_map line_right_sides before.right_sides))
    → AllByRecursion (λ k. k ≡ gathered_column o names before.columns k.name) ks → map (λ (k : TableColumn). k.name) ks ≡ ns
    → map state_values ss ≡ map (parsed_values before.columns before.bounds) ns → bounded ks (map state_bounds ss) ≡ map (table_column before) ns
columns-parsed before o names [] ss [] oi ni parsed named h = refl
columns-parsed before o names (k ∷ ks) (s ∷ ss) (n ∷ ns) oi ni parsed named h =
    let one : k.name ≡ n = cc in
    let rest : map (λ (q : TableColumn). q.name) ks ≡ ns = cc in
    let head : state_values s ≡ parsed_values before.columns before.bounds n = cc in
    let tail : map state_values ss ≡ map (parsed_values before.columns before.bounds) ns = cc in
    ap (λ c. c ∷ bounded ks (map state_bounds ss)) (column-parsed before o names k s n oi ni parsed.0 one head)
    ∙ ap (λ cs. table_column before n ∷ cs) (columns-parsed before o names ks ss ns oi ni parsed.1 rest tail)
columns-parsed before o names _ _ _ oi ni parsed named h = absurd cc

pub program-parsed : (before : Sections) (r : Reading) (name : List ℕ) (made : List Bounds) → ReadingFits r
    → is_some r.columns.current ≡ false → option_now r.rows.objective ≡ Some name → made ≡ map state_bounds r.columns.states.items
    → ReadingTells before r
    → program before ≡ record { objective = name; rows = map shown_row r.rows.rows.items; columns = bounded r.columns.done made }
unfolding program
program-parsed before r name made fit none named bounds-are h =
    let objective-is : option_now r.rows.objective ≡ first_free before.rows = h.lines.of_rows.objective in
    let names-are : declared_row_names r.rows.rows.items ≡ map (λ (q : TableRow). q.name)
    (table_rows before.rows (flat_map line_right_sides before.right_sides)) =
    names-shown r.rows.rows.items ∙ ap (map (λ (q : TableRow). q.name)) h.lines.of_rows.shown in
    let all : map (λ (k : TableColumn). k.name) r.columns.done ≡ columns_named before.columns =
    sym (done-names (length r.rows.rows.items) r.columns fit.both.columns none) ∙ h.lines.of_columns.names in
    let columns-are = columns-parsed before (option_now r.rows.objective) (declared_row_names r.rows.rows.items) r.columns.done r.columns.states.items
    (columns_named before.columns) objective-is names-are h.lines.of_columns.done all h.lines.of_columns.states in
    let name-is : unwrap_or (first_free before.rows) [] ≡ name = ap (λ o. unwrap_or o []) (sym objective-is ∙ named) in
    ap (λ n. record {
      objective = n;
      rows = table_rows before.rows (flat_map line_right_sides before.right_sides);
      columns =
          map (table_column before) (columns_named before.columns);
    }) name-is
    ∙ ap (λ rs. record { objective = name; rows = rs; columns = map (table_column before) (columns_named before.columns) }) (sym h.lines.of_rows.shown)
    ∙ ap (λ cs. record { objective = name; rows = map shown_row r.rows.rows.items; columns = cs })
    (sym columns-are ∙ ap (bounded r.columns.done) (sym bounds-are))
