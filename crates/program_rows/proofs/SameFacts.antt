-- Two programs are equal as maps if and only if each row and column of one is in the other.
use Rattle.std.proofs.Common.{◌≡◌, ℕ, ◌<◌, Bool, true, false, ◌&&◌, nat_lt, lt-ltb, List, [], ◌∷◌, Option, Some, None}
use Rattle.std.proofs.Common.{length, map, slice_get, refl, sym, ap, ap₂, ◌∙◌, arith, ℤ, pos, eq-eqb}
use Rattle.std.specs.Prelude.{◌==◌, bytes_eq, find}
use Rattle.std.specs.Option.{option_map, option_map_or}
use Rattle.std.specs.List.{AllByRecursion, IsDistinct, list_all, position_or_len}
use Rattle.std.specs.Ordering.{int_eq}
use Rattle.std.proofs.lemmas.Bool.{and_parts, cond-true, eqb-true, ne_eqb}
use Rattle.std.proofs.lemmas.Bool.Decides.{Decides-int_eq}
use Rattle.std.proofs.lemmas.List.Folds.{find_at}
use Rattle.std.proofs.lemmas.Map.Keys.{IsDistinct-tail}
use Rattle.std.proofs.lemmas.Option.{same_Some}
use Rattle.std.proofs.lemmas.Slice.Eq.{bytes_eq-Decides}
use Rattle.program_rows.specs.declared.column.Bounds.{Bounds}
use Rattle.program_rows.specs.Program.{Table, TableRow, TableColumn}
use Rattle.program_rows.specs.Parts.{IsProgram, AreEntries}
use Rattle.program_rows.specs.Points.{coefficient_at}
use Rattle.program_rows.specs.Same.{row_named, column_named, coefficient_in, coefficient_by_names, bounds_and_cost, IsSameProgram}
use Rattle.program_rows.specs.inside.Comparing.{same_kind, same_bounds, row_agrees, row_stands, entry_stands, column_agrees}
use Rattle.program_rows.specs.inside.Comparing.{column_stands, stands_in, is_same_program}
use Rattle.program_rows.proofs.EachFacts.{item_at}
use Rattle.program_rows.proofs.LookupFacts.{guessed}
use Rattle.program_rows.proofs.NamedItemFacts.{Place, all_pass, all_true, bounds_equal, bounds_itself, found_in}
use Rattle.program_rows.proofs.NamedItemFacts.{found_passes, in_no_row, in_row, is_row, kind_itself, kinds_equal}
use Rattle.program_rows.proofs.NamedItemFacts.{name_there, own, place_by, rows_equal, stands}
use Rattle.program_rows.specs.ProgramNames.{row_name}

-- ---------- what is in another program ----------

row_over : (rows others : List TableRow) (name : List ℕ) (r : TableRow) → list_all (row_stands others) rows ≡ true
    → row_named rows name ≡ Some r → row_named others name ≡ Some r
row_over rows others name r h e =
    let named : name ≡ r.name = (bytes_eq-Decides name r.name).0 (found_passes (is_row name) rows r e) in
    let s = stands (row_agrees r) (row_named others r.name) (found_in (λ x. row_stands others x ≡ true) (is_row name) rows r
    (all_true (row_stands others) rows h) e) in
    let also : r.name ≡ s.0.name = (bytes_eq-Decides r.name s.0.name).0 (found_passes (is_row r.name) others s.0 s.1) in
    let agree = and_parts (same_kind r.kind s.0.kind) (int_eq r.right_side s.0.right_side) s.2 in
    let kind : r.kind ≡ s.0.kind = kinds_equal r.kind s.0.kind agree.0 in
    let side : r.right_side ≡ s.0.right_side = (Decides-int_eq r.right_side s.0.right_side).0 agree.1 in
    let same : s.0 ≡ r = sym (rows_equal r s.0 also kind side) in
    ap (row_named others) named ∙ s.1 ∙ ap (λ (x : TableRow). Some x) same

opt_same : {X : Type 0} (o u : Option X) → ((x : X) → o ≡ Some x → u ≡ Some x) → ((x : X) → u ≡ Some x → o ≡ Some x) → o ≡ u
opt_same None None f g = refl
opt_same None (Some x) f g = g x refl
opt_same (Some x) u f g = sym (f x refl)

-- the column of the same name, and what it agrees in
pub record Partner (rows others : List TableRow) (columns : List TableColumn) (name : List ℕ) (c : TableColumn) : Type 0 where
  pub column : TableColumn
  pub found : column_named columns name ≡ Some column
  pub terms : bounds_and_cost c ≡ bounds_and_cost column
  pub entries : list_all (entry_stands rows others column) c.entries ≡ true

abbrev is_column : List ℕ → TableColumn → Bool
is_column name c = bytes_eq name c.name

column_over : (rows others : List TableRow) (columns more : List TableColumn) (name : List ℕ) (c : TableColumn)
    → list_all (column_stands rows others more) columns ≡ true → column_named columns name ≡ Some c → Partner rows others more name c
column_over rows others columns more name c h e =
    let named : name ≡ c.name = (bytes_eq-Decides name c.name).0 (found_passes (is_column name) columns c e) in
    let d = stands (column_agrees rows others c) (column_named more c.name)
    (found_in (λ x. column_stands rows others more x ≡ true) (is_column name) columns c
    (all_true (column_stands rows others more) columns h) e) in
    let agree = and_parts (same_bounds c.bounds d.0.bounds && int_eq c.cost d.0.cost) (list_all (entry_stands rows others d.0) c.entries) d.2 in
    let terms = and_parts (same_bounds c.bounds d.0.bounds) (int_eq c.cost d.0.cost) agree.0 in
    record {
      column = d.0;
      found = ap (column_named more) named ∙ d.1;
      terms = ap₂ (λ (b : Bounds) (n : ℤ). (b, n)) (bounds_equal c.bounds d.0.bounds terms.0) ((Decides-int_eq c.cost d.0.cost).0 terms.1);
      entries = agree.1;
    }

-- ---------- coefficients ----------

abbrev in_row_at : ℕ → ℕ × ℤ → Bool
in_row_at place e = e.0 == place

-- an entry of one column gives the coefficient of the other
entry_over : (rows others : List TableRow) (c d : TableColumn) (name : List ℕ) (i : ℕ) (r : TableRow) (e : ℕ × ℤ) → Place rows name i r
    → list_all (entry_stands rows others d) c.entries ≡ true → find (in_row_at i) c.entries ≡ Some e
    → coefficient_in others d name ≡ e.1
entry_over rows others c d name i r e place h f =
    let at : e.0 ≡ i = eqb-true e.0 i (found_passes (in_row_at i) c.entries e f) in
    let s : entry_stands rows others d e ≡ true =
    found_in (λ x. entry_stands rows others d x ≡ true) (in_row_at i) c.entries e (all_true (entry_stands rows others d) c.entries h) f
    in
    let same = (Decides-int_eq (coefficient_in others d (row_name rows e.0)) e.1).0 s in
    let named : row_name rows e.0 ≡ name = ap (row_name rows) at ∙ name_there rows name i r place in
    ap (coefficient_in others d) (sym named) ∙ same

by_entries : (rows others : List TableRow) (c d : TableColumn) (name : List ℕ) (i j : ℕ) (r s : TableRow) → Place rows name i r → Place others name j s
    → list_all (entry_stands rows others d) c.entries ≡ true → list_all (entry_stands others rows c) d.entries ≡ true → coefficient_at i c ≡ coefficient_at j d
by_entries rows others c d name i j r s p q h k = by (find (in_row_at i) c.entries) (find (in_row_at j) d.entries) refl refl
  where
    left : coefficient_in rows c name ≡ coefficient_at i c
    left = in_row rows name i r c p

    right : coefficient_in others d name ≡ coefficient_at j d
    right = in_row others name j s d q

    by : (o u : Option (ℕ × ℤ)) → find (in_row_at i) c.entries ≡ o → find (in_row_at j) d.entries ≡ u → coefficient_at i c ≡ coefficient_at j d
    by (Some e) u f g =
        let mine : coefficient_at i c ≡ e.1 = ap (λ (x : Option (ℕ × ℤ)). option_map_or (λ e. e.1) x (pos 0)) f in
        mine ∙ sym (entry_over rows others c d name i r e p h f) ∙ right
    by None (Some e) f g =
        let theirs : coefficient_at j d ≡ e.1 = ap (λ (x : Option (ℕ × ℤ)). option_map_or (λ e. e.1) x (pos 0)) g in
        sym left ∙ entry_over others rows d c name j s e q k g ∙ sym theirs
    by None None f g =
        ap (λ (x : Option (ℕ × ℤ)). option_map_or (λ e. e.1) x (pos 0)) f ∙ sym (ap (λ (x : Option (ℕ × ℤ)). option_map_or (λ e. e.1) x (pos 0)) g)

same_coefficients : (rows others : List TableRow) (c d : TableColumn) (name : List ℕ) → row_named rows name ≡ row_named others name
    → list_all (entry_stands rows others d) c.entries ≡ true → list_all (entry_stands others rows c) d.entries ≡ true
    → coefficient_in rows c name ≡ coefficient_in others d name
same_coefficients rows others c d name same h k = by (row_named rows name) refl
  where
    by : (o : Option TableRow) → row_named rows name ≡ o → coefficient_in rows c name ≡ coefficient_in others d name
    by None e = in_no_row rows name c e ∙ sym (in_no_row others name d (sym same ∙ e))
    by (Some r) e =
        let p = place_by rows name r e in
        let q = place_by others name r (sym same ∙ e) in
        let i = position_or_len (is_row name) rows in
        let j = position_or_len (is_row name) others in
        in_row rows name i r c p ∙ by_entries rows others c d name i j r r p q h k ∙ sym (in_row others name j r d q)

-- ---------- from the test ----------

abbrev in_rows : List TableRow → List ℕ → Option TableColumn → ℤ
in_rows rows row o = option_map_or (λ c. coefficient_in rows c row) o (pos 0)

module _ (p q : Table) (over_rows : list_all (row_stands q.rows) p.rows ≡ true)
    (over_columns : list_all (column_stands p.rows q.rows q.columns) p.columns ≡ true)
    (back_rows : list_all (row_stands p.rows) q.rows ≡ true) (back_columns : list_all (column_stands q.rows p.rows p.columns) q.columns ≡ true) where
  rows_same : (name : List ℕ) → row_named p.rows name ≡ row_named q.rows name
  rows_same name = opt_same (row_named p.rows name) (row_named q.rows name) (λ r e. row_over p.rows q.rows name r over_rows e)
      (λ r e. row_over q.rows p.rows name r back_rows e)

  over : (name : List ℕ) (c : TableColumn) → column_named p.columns name ≡ Some c → Partner p.rows q.rows q.columns name c
  over name c e = column_over p.rows q.rows p.columns q.columns name c over_columns e

  back : (name : List ℕ) (c : TableColumn) → column_named q.columns name ≡ Some c → Partner q.rows p.rows p.columns name c
  back name c e = column_over q.rows p.rows q.columns p.columns name c back_columns e

  none_over : (name : List ℕ) → column_named p.columns name ≡ None → column_named q.columns name ≡ None
  none_over name e = by (column_named q.columns name) refl
    where
      by : (o : Option TableColumn) → column_named q.columns name ≡ o → o ≡ None
      by None f = refl
      by (Some c) f = let mine = (back name c f).found in cc

  columns_same : (name : List ℕ) → option_map bounds_and_cost (column_named p.columns name) ≡ option_map bounds_and_cost (column_named q.columns name)
  columns_same name = by (column_named p.columns name) refl
    where
      by : (o : Option TableColumn) → column_named p.columns name ≡ o → option_map bounds_and_cost o ≡ option_map bounds_and_cost (column_named q.columns name)
      by None e = sym (ap (option_map bounds_and_cost) (none_over name e))
      by (Some c) e = let d = over name c e in ap (λ (t : Bounds × ℤ). Some t) d.terms ∙ sym (ap (option_map bounds_and_cost) d.found)

  coefficients_same : (column row : List ℕ) → coefficient_by_names p column row ≡ coefficient_by_names q column row
  coefficients_same column row = by (column_named p.columns column) refl
    where
      by : (o : Option TableColumn) → column_named p.columns column ≡ o → coefficient_by_names p column row ≡ coefficient_by_names q column row
      by None e = ap (in_rows p.rows row) e ∙ sym (ap (in_rows q.rows row) (none_over column e))
      by (Some c) e =
          let d = over column c e in
          let b = back column d.column d.found in
          let same : b.column ≡ c = same_Some b.column c (sym b.found ∙ e) in
          let entries : list_all (entry_stands q.rows p.rows c) d.column.entries ≡ true =
          ap (λ (x : TableColumn). list_all (entry_stands q.rows p.rows x) d.column.entries) (sym same) ∙ b.entries in
          ap (in_rows p.rows row) e ∙ same_coefficients p.rows q.rows c d.column row (rows_same row) d.entries entries ∙ sym (ap (in_rows q.rows row) d.found)

pub same_by_test : (p q : Table) → is_same_program p q ≡ true → IsSameProgram p q
same_by_test p q h =
    let a = and_parts (bytes_eq p.objective q.objective) (stands_in p q && stands_in q p) h in
    let b = and_parts (stands_in p q) (stands_in q p) a.1 in
    let over = and_parts (list_all (row_stands q.rows) p.rows) (list_all (column_stands p.rows q.rows q.columns) p.columns) b.0 in
    let back = and_parts (list_all (row_stands p.rows) q.rows) (list_all (column_stands q.rows p.rows p.columns) q.columns) b.1 in
    record {
      objective = (bytes_eq-Decides p.objective q.objective).0 a.0;
      rows = rows_same p q over.0 over.1 back.0 back.1;
      columns = columns_same p q over.0 over.1 back.0 back.1;
      coefficients = coefficients_same p q over.0 over.1 back.0 back.1;
    }

-- ---------- to the test ----------

rows_stand : (rows others xs : List TableRow) → ((name : List ℕ) → row_named rows name ≡ row_named others name)
    → AllByRecursion (λ r. row_named rows r.name ≡ Some r) xs → AllByRecursion (λ r. row_stands others r ≡ true) xs
rows_stand rows others [] same h = tt
rows_stand rows others (r ∷ xs) same h =
    let side : int_eq r.right_side r.right_side ≡ true = (Decides-int_eq r.right_side r.right_side).1 refl in
    let itself : row_agrees r r ≡ true = rw (kind_itself r.kind, side) refl in
    (ap (λ (o : Option TableRow). option_map_or (row_agrees r) o false) (sym (same r.name) ∙ h.0) ∙ itself, rows_stand rows others xs same h.1)

-- the row at a place is found by its name
own_place : (rows : List TableRow) (k : ℕ) → IsDistinct bytes_eq (map (λ r. r.name) rows) → k < length rows → (r : TableRow) × Place rows (row_name rows k) k r
own_place rows k d l =
    let r = item_at rows k l in
    let n = row_name rows k in
    let named : n ≡ r.0.name = ap (λ (o : Option TableRow). option_map_or (λ r. r.name) o []) r.1 in
    let here : k ≡ position_or_len (is_row n) rows = guessed (λ (r : TableRow). r.name) n rows k r.0.name d
    (ap (option_map (λ (r : TableRow). r.name)) r.1) ((bytes_eq-Decides n r.0.name).1 named) in
    let found : row_named rows n ≡ Some r.0 = find_at (is_row n) rows ∙ ap (slice_get rows) (sym here) ∙ r.1 in
    let inside : nat_lt (position_or_len (is_row n) rows) (length rows) ≡ true = lt-ltb (position_or_len (is_row n) rows) (length rows) (omega arith) in (
      r.0,
      record {
        at = cond-true (nat_lt (position_or_len (is_row n) rows) (length rows)) (Some (position_or_len (is_row n) rows)) None
            inside ∙ ap (λ (m : ℕ). Some m) (sym here);
        there = r.1;
        found = found;
      },
    )

-- an entry is found by the place of its row
abbrev IsOwn : ℕ → List (ℕ × ℤ) → ℕ × ℤ → Type 0
IsOwn rows entries e = (e.0 < rows) × (find (in_row_at e.0) entries ≡ Some e)

entries_after : (rows : ℕ) (e : ℕ × ℤ) (entries es : List (ℕ × ℤ)) → AllByRecursion (λ later. e.0 < later.0) es
    → AllByRecursion (IsOwn rows entries) es → AllByRecursion (IsOwn rows (e ∷ entries)) es
entries_after rows e entries [] l h = tt
entries_after rows e entries (f ∷ es) l h =
    let apart : (e.0 == f.0) ≡ false = ne_eqb e.0 f.0 (λ t. let less = l.0 in omega arith) in
    ((h.0.0, rw apart h.0.1), entries_after rows e entries es l.1 h.1)

own_entries : (rows : ℕ) (es : List (ℕ × ℤ)) → AreEntries rows es → AllByRecursion (IsOwn rows es) es
own_entries rows [] h = tt
own_entries rows (e ∷ es) h =
    let here : (e.0 == e.0) ≡ true = eq-eqb e.0 e.0 refl in
    ((h.0, rw here refl), entries_after rows e es es h.2 (own_entries rows es h.3))

entries_stand : (rows others : List TableRow) (c d : TableColumn) (es : List (ℕ × ℤ)) → IsDistinct bytes_eq (map (λ r. r.name) rows)
    → ((name : List ℕ) → coefficient_in rows c name ≡ coefficient_in others d name) → AllByRecursion (IsOwn (length rows) c.entries) es
    → AllByRecursion (λ e. entry_stands rows others d e ≡ true) es
entries_stand rows others c d [] differ same h = tt
entries_stand rows others c d (e ∷ es) differ same h =
    let place = own_place rows e.0 differ h.0.0 in
    let name = row_name rows e.0 in
    let mine : coefficient_at e.0 c ≡ e.1 = ap (λ (x : Option (ℕ × ℤ)). option_map_or (λ e. e.1) x (pos 0)) h.0.1 in
    let equal : coefficient_in others d name ≡ e.1 = sym (same name) ∙ in_row rows name e.0 place.0 c place.1 ∙ mine in
    ((Decides-int_eq (coefficient_in others d name) e.1).1 equal, entries_stand rows others c d es differ same h.1)

abbrev IsOwnColumn : Table → TableColumn → Type 0
IsOwnColumn p c = (column_named p.columns c.name ≡ Some c) × AreEntries (length p.rows) c.entries

column_stand : (p q : Table) (c : TableColumn) → IsDistinct bytes_eq (map (λ r. r.name) p.rows) → IsSameProgram p q → IsOwnColumn p c
    → column_stands p.rows q.rows q.columns c ≡ true
column_stand p q c differ same h = by (column_named q.columns c.name) refl
  where
    by : (o : Option TableColumn) → column_named q.columns c.name ≡ o → column_stands p.rows q.rows q.columns c ≡ true
    by None e =
        let terms = sym (ap (option_map bounds_and_cost) h.0) ∙ same.columns c.name ∙ ap (option_map bounds_and_cost) e in
        cc
    by (Some d) e =
        let terms : bounds_and_cost c ≡ bounds_and_cost d = same_Some (bounds_and_cost c) (bounds_and_cost d)
        (sym (ap (option_map bounds_and_cost) h.0) ∙ same.columns c.name ∙ ap (option_map bounds_and_cost) e) in
        let bounds : same_bounds c.bounds d.bounds ≡ true = ap (same_bounds c.bounds) (sym (ap (λ (t : Bounds × ℤ). t.0) terms)) ∙ bounds_itself c.bounds in
        let cost : int_eq c.cost d.cost ≡ true = (Decides-int_eq c.cost d.cost).1 (ap (λ (t : Bounds × ℤ). t.1) terms) in
        let coefficients : (name : List ℕ) → coefficient_in p.rows c name ≡ coefficient_in q.rows d name = λ name.
        sym (ap (λ (o : Option TableColumn). option_map_or (λ c. coefficient_in p.rows c name) o (pos 0)) h.0) ∙ same.coefficients c.name name
        ∙ ap (λ (o : Option TableColumn). option_map_or (λ c. coefficient_in q.rows c name) o (pos 0)) e in
        let entries : list_all (entry_stands p.rows q.rows d) c.entries
        ≡ true = all_pass (entry_stands p.rows q.rows d) c.entries
        (entries_stand p.rows q.rows c d c.entries differ coefficients (own_entries (length p.rows) c.entries h.1)) in
        let agree : column_agrees p.rows q.rows c d ≡ true = rw (bounds, cost, entries) refl in
        ap (λ (o : Option TableColumn). option_map_or (column_agrees p.rows q.rows c) o false) e ∙ agree

columns_stand : (p q : Table) (cs : List TableColumn) → IsDistinct bytes_eq (map (λ r. r.name) p.rows) → IsSameProgram p q
    → AllByRecursion (λ c. column_named p.columns c.name ≡ Some c) cs → AllByRecursion (λ c. AreEntries (length p.rows) c.entries) cs
    → AllByRecursion (λ c. column_stands p.rows q.rows q.columns c ≡ true) cs
columns_stand p q [] differ same h k = tt
columns_stand p q (c ∷ cs) differ same h k = (column_stand p q c differ same (h.0, k.0), columns_stand p q cs differ same h.1 k.1)

stands_by : (p q : Table) → IsProgram p → IsSameProgram p q → stands_in p q ≡ true
stands_by p q legal same =
    let differ = IsDistinct-tail bytes_eq p.objective (map (λ r. r.name) p.rows) legal.rows_differ in
    let rows = all_pass (row_stands q.rows) p.rows (rows_stand p.rows q.rows p.rows same.rows (own (λ (r : TableRow). r.name) p.rows differ)) in
    let columns = all_pass (column_stands p.rows q.rows q.columns) p.columns
    (columns_stand p q p.columns differ same (own (λ (c : TableColumn). c.name) p.columns legal.columns_differ) legal.entries) in
    rw (rows, columns) refl

turned : (p q : Table) → IsSameProgram p q → IsSameProgram q p
turned p q same = record {
  objective = sym same.objective;
  rows = λ name. sym (same.rows name);
  columns = λ name. sym (same.columns name);
  coefficients = λ column row. sym (same.coefficients column row);
}

pub test_by_same : (p q : Table) → IsProgram p → IsProgram q → IsSameProgram p q → is_same_program p q ≡ true
test_by_same p q legal other same =
    let objective = (bytes_eq-Decides p.objective q.objective).1 same.objective in
    rw (objective, stands_by p q legal same, stands_by q p other (turned p q same)) refl
