-- A line of COLUMNS more.
use Rattle.std.proofs.Common.{◌≡◌, ℕ, suc, ◌+◌, ◌≤◌, Bool, true, false, not, ◌||◌, ◌&&◌, List, [], ◌∷◌, ◌++◌, length, map}
use Rattle.std.proofs.Common.{drop, refl, sym, ap, subst, ◌∙◌, arith, Option, Some, None, ℤ, pos, length-append}
use Rattle.mps_reader.proofs.PairFaultFacts.{last-one}
use Rattle.std.specs.Prelude.{◌==◌, slice_get, bytes_eq, codes, unwrap_or, is_some, filter, flat_map, IfSome, if◌then◌else◌}
use Rattle.std.specs.List.{list_any, AllByRecursion, IsDistinct}
use Rattle.std.specs.Option.{option_to_list, option_map_or}
use Rattle.std.specs.Ordering.{int_eq}
use Rattle.std.proofs.lemmas.List.{map-append}
use Rattle.std.proofs.lemmas.List.Folds.{list_any-append}
use Rattle.std.proofs.lemmas.Bool.{ne_eqb, both_ways}
use Rattle.std.proofs.Math.Bool.{and_comm}
use denote.Ref.{Bor}
use Rattle.program_rows.specs.declared.column.Bounds.TheVariants.{ZeroOrOne}
use Rattle.program_rows.specs.Program.{TableColumn}
use Rattle.auction_terms.specs.LineFields.{LineFields, field}
use Rattle.program_rows.specs.MpsSections.{Sections}
use Rattle.program_rows.specs.MpsProgram.{pairs, is_marker, column_lines, columns_named, column_pairs, number_beside, is_column}
use Rattle.program_rows.specs.MpsFaults.{is_integer_open, stands_in_integers, is_split, column_fault, pairs_fault}
use Rattle.program_rows.specs.declared.mps_fault_kind.MpsFaultKind.{MpsFaultKind}
use Rattle.program_rows.specs.declared.mps_fault_kind.MpsFaultKind.TheVariants.{ColumnSplit}
use Rattle.mps_reader.specs.inside.Columns.{ColumnsFit, entries_at, nearest_column}
use Rattle.mps_reader.specs.inside.Rows.{names_of, option_now, declared_row_names, StampsAre, RowsFit}
use Rattle.mps_reader.specs.inside.Tracking.{DataLines, number_at_place, HoldsNumbers, ColumnsTell, ColumnAdded, InColumns, AreStampsUpTo}
use Rattle.mps_reader.specs.inside.Tracking.{gathered_column, parsed_values, state_values, is_current}
use Rattle.mps_reader.specs.declared.tables.ColumnTable.{ColumnTable}
use Rattle.mps_reader.specs.declared.tables.OpenColumn.{OpenColumn}
use Rattle.mps_reader.specs.declared.tables.Rows.{Rows}
use Rattle.mps_reader.proofs.NameFacts.{length-bytes, same_name, own_name, or-false, or-last, any-last, differs}
use Rattle.mps_reader.proofs.PairStepFacts.{length-names}
use Rattle.mps_reader.proofs.ColumnStepFacts.{current-is, no-column, some-current}
use Rattle.std.specs.Bool.{then_some as when}
use Rattle.mps_reader.proofs.RowStepFacts.{now-from}

-- ---- names, each once

pub columns-any : (name : List ℕ) (lines : List LineFields) → list_any (bytes_eq name) (columns_named lines) ≡ is_column lines name
columns-any name [] = refl
columns-any name (f ∷ lines) = by (is_marker f) refl (is_column lines (field 0 f)) refl (columns-any name lines)
  where
    known : (b : Bool) → bytes_eq name (field 0 f) ≡ b → is_column lines (field 0 f) ≡ true → is_column lines name ≡ (b || is_column lines name)
    known true h e = subst (λ n. is_column lines n ≡ true) (sym (same_name name (field 0 f) h)) e
    known false h e = refl

    by : (m : Bool) → is_marker f ≡ m → (b : Bool) → is_column lines (field 0 f) ≡ b → list_any (bytes_eq name) (columns_named lines)
        ≡ is_column lines name → list_any (bytes_eq name) (columns_named (f ∷ lines)) ≡ is_column (f ∷ lines) name
    by true m b e more = rw m more
    by false m true e more = rw (m, e) (more ∙ known (bytes_eq name (field 0 f)) refl e)
    by false m false e more = rw (m, e) (list_any-append (bytes_eq name) (columns_named lines) (field 0 f ∷ []) ∙ or-last
        (list_any (bytes_eq name) (columns_named lines)) (bytes_eq name (field 0 f)) ∙ ap (λ b. bytes_eq name (field 0 f) || b) more)

-- ---- pairs of columns

-- a line of another column says nothing of this one
pub pairs-other : (column : List ℕ) (f : LineFields) (lines : List LineFields) → is_marker f ≡ false → bytes_eq column (field 0 f) ≡ false
    → column_pairs (f ∷ lines) column ≡ column_pairs lines column
pairs-other column f lines m h = rw (m, h) refl

pub pairs-own : (f : LineFields) (lines : List LineFields) → is_marker f ≡ false
    → column_pairs (f ∷ lines) (field 0 f) ≡ pairs (drop 1 f) ++ column_pairs lines (field 0 f)
pairs-own f lines m = rw (m, own_name (field 0 f)) refl

pub entries_at-same : (k : ℕ) (f g : List ℕ → ℤ) (rows : List (List ℕ)) → ((n : List ℕ) → f n ≡ g n) → entries_at k f rows ≡ entries_at k g rows
entries_at-same k f g [] e = refl
entries_at-same k f g (n ∷ rows) e = rw (e n) (by (int_eq (g n) (pos 0)) (entries_at-same (suc k) f g rows e))
  where
    by : (b : Bool) → entries_at (suc k) f rows ≡ entries_at (suc k) g rows → (if b then entries_at (suc k) f rows else (k, g n)
        ∷ entries_at (suc k) f rows) ≡ (if b then entries_at (suc k) g rows else (k, g n) ∷ entries_at (suc k) g rows)
    by true more = more
    by false more = ap (λ es. (k, g n) ∷ es) more

none-named : (name : List ℕ) (ls : List LineFields) → list_any (λ other. bytes_eq name (field 0 other)) ls ≡ false
    → filter (λ fields. bytes_eq name (field 0 fields)) ls ≡ []
none-named name [] h = refl
none-named name (f ∷ ls) h =
    let parts = or-false (bytes_eq name (field 0 f)) (list_any (λ other. bytes_eq name (field 0 other)) ls) h in
    rw (parts.0) (none-named name ls parts.1)

-- a name that no line has has no pairs
pub no-pairs : (name : List ℕ) (lines : List LineFields) → list_any (λ other. bytes_eq name (field 0 other)) (column_lines lines) ≡ false
    → column_pairs lines name ≡ []
no-pairs name lines h = ap (flat_map (λ fields. pairs (drop 1 fields))) (none-named name (column_lines lines) h)

-- ---- whether columns are integers

-- the values of the columns of a list, before any bound
pub values-same : (f : LineFields) (lines : List LineFields) (ns : List (List ℕ))
    → ((n : List ℕ) → list_any (bytes_eq n) ns ≡ true → stands_in_integers n (f ∷ lines) ≡ stands_in_integers n lines)
    → map (parsed_values (f ∷ lines) []) ns ≡ map (parsed_values lines []) ns
values-same f lines ns h = go ns (λ n k. k)
  where
    later : (a b : Bool) → b ≡ true → (a || b) ≡ true
    later true b e = refl
    later false b e = e

    go : (ms : List (List ℕ)) → ((n : List ℕ) → list_any (bytes_eq n) ms ≡ true → list_any (bytes_eq n) ns ≡ true)
        → map (parsed_values (f ∷ lines) []) ms ≡ map (parsed_values lines []) ms
    go [] k = refl
    go (m ∷ ms) k =
        let own : list_any (bytes_eq m) (m ∷ ms) ≡ true = rw (own_name m) refl in
        let first : parsed_values (f ∷ lines) [] m ≡ parsed_values lines [] m = ap (λ b. (b || false, pos 0, None)) (h m (k m own)) in
        ap (λ v. v ∷ map (parsed_values (f ∷ lines) []) ms) first ∙ ap (λ vs. parsed_values lines [] m ∷ vs)
        (go ms (λ n e. k n (later (bytes_eq n m) (list_any (bytes_eq n) ms) e)))

other-stands : (f : LineFields) (lines : List LineFields) (n : List ℕ) → is_marker f ≡ false → bytes_eq n (field 0 f) ≡ false
    → stands_in_integers n (f ∷ lines) ≡ stands_in_integers n lines
other-stands f lines n m h = rw (m, h) refl

own-stands : (f : LineFields) (lines : List LineFields) (n : List ℕ) → is_marker f ≡ false → bytes_eq n (field 0 f) ≡ true
    → stands_in_integers n (f ∷ lines) ≡ is_integer_open lines
own-stands f lines n m h = rw (m, h) refl

-- the column of the nearest line is named where that line is
nearest-stands : (f : LineFields) (lines : List LineFields) (n : List ℕ) → is_marker f ≡ false → nearest_column lines ≡ Some (field 0 f)
    → stands_in_integers n (f ∷ lines) ≡ stands_in_integers n lines
nearest-stands f [] n m h = absurd cc
nearest-stands f (g ∷ lines) n m h = by (is_marker g) refl h (bytes_eq n (field 0 f)) refl
  where
    by : (b : Bool) → is_marker g ≡ b → (if b then None else Some (field 0 g)) ≡ Some (field 0 f) → (t : Bool) → bytes_eq n (field 0 f) ≡ t
        → stands_in_integers n (f ∷ g ∷ lines) ≡ stands_in_integers n (g ∷ lines)
    by true e k t q = absurd cc
    by false e k t q =
        let same : field 0 g ≡ field 0 f = cc in
        at t q same
      where
        at : (t : Bool) → bytes_eq n (field 0 f) ≡ t → field 0 g ≡ field 0 f → stands_in_integers n (f ∷ g ∷ lines) ≡ stands_in_integers n (g ∷ lines)
        at false q same = other-stands f (g ∷ lines) n m q
        at true q same =
            let begun : is_integer_open (g ∷ lines) ≡ is_integer_open lines = rw e refl in
            own-stands f (g ∷ lines) n m q ∙ begun ∙ sym (own-stands g lines n e (ap (bytes_eq n) same ∙ q))

-- ---- a marker

abbrev pairs_in : List LineFields → List ℕ → List (List ℕ × List ℕ)
pairs_in ls name = flat_map (λ fields. pairs (drop 1 fields)) (filter (λ fields. bytes_eq name (field 0 fields)) ls)

abbrev parsed-by : Option (List ℕ) → List (List ℕ) → List LineFields → List ℕ → TableColumn
parsed-by o rows ls name =
    record {
      name = name;
      bounds = ZeroOrOne;
      cost = number_beside (pairs_in ls name) (unwrap_or o []);
      entries =
          entries_at 0 (number_beside (pairs_in ls name)) rows;
    }

pub marker-tells : (f : LineFields) (o : Option (List ℕ)) (rows : List (List ℕ)) (lines : List LineFields) (old new : ColumnTable)
    → is_marker f ≡ true → new.names ≡ old.names → new.states ≡ old.states → new.done ≡ old.done → is_some new.current ≡ false
    → new.current_column.cost ≡ pos 0 → new.is_begun ≡ bytes_eq (field 2 f) (codes "'INTORG'") → ColumnsTell o rows lines [] old
    → ColumnsTell o rows (f ∷ lines) [] new
marker-tells f o rows lines old new m names_both states done none nothing begun h =
    let same : column_lines (f ∷ lines) ≡ column_lines lines = rw m refl in
    let named : columns_named (f ∷ lines) ≡ columns_named lines = rw m refl in
    let values : map (parsed_values (f ∷ lines) []) (columns_named lines) ≡ map (parsed_values lines []) (columns_named lines) =
    values-same f lines (columns_named lines) (λ n k. rw m refl) in
    record {
      names = ap names_of names_both ∙ h.names ∙ sym named;
      begun = begun ∙ rw m refl;
      states = ap (λ s. map state_values s.items) states ∙ h.states ∙ sym values ∙ ap (map (parsed_values (f ∷ lines) [])) (sym named);
      done = subst (λ ls. AllByRecursion (λ (k : TableColumn). k ≡ parsed-by o rows ls k.name) new.done) (sym same)
          (subst (λ ks. AllByRecursion (λ (k : TableColumn). k ≡ parsed-by o rows (column_lines lines) k.name) ks) (sym done) h.done);
      opened = no-column _ new.current none;
      closed = λ e. nothing;
    }

-- ---- a line of pairs

-- its column is the current one, and what the lines before say of it
pub record IsReady (f : LineFields) (o : Option (List ℕ)) (rows : List (List ℕ)) (lines : List LineFields) (r : Rows) (c : ColumnTable) : Type 0 where
  pub tells : HoldsNumbers o rows (number_beside (column_pairs lines (field 0 f))) c.current_column
  pub stamps : StampsAre r.stamps.items (length (names_of c.names)) (names_of r.names)
      (λ row. list_any (λ other. bytes_eq row other.0) (column_pairs lines (field 0 f)))
  pub low : AreStampsUpTo (length (names_of c.names)) r
  pub all : names_of c.names ≡ columns_named (f ∷ lines)
  pub begun : c.is_begun ≡ is_integer_open lines
  pub states : map state_values c.states.items ≡ map (parsed_values (f ∷ lines) []) (columns_named (f ∷ lines))
  pub done : AllByRecursion (λ k. k ≡ gathered_column o rows lines k.name) c.done

names-known : (f : LineFields) (lines : List LineFields) → is_marker f ≡ false
    → list_any (bytes_eq (field 0 f)) (columns_named lines) ≡ true → columns_named (f ∷ lines) ≡ columns_named lines
names-known f lines m h = let known = sym (columns-any (field 0 f) lines) ∙ h in rw (m, known) refl

names-fresh : (f : LineFields) (lines : List LineFields) → is_marker f ≡ false
    → list_any (bytes_eq (field 0 f)) (columns_named lines) ≡ false → columns_named (f ∷ lines) ≡ columns_named lines ++ field 0 f ∷ []
names-fresh f lines m h = let known = sym (columns-any (field 0 f) lines) ∙ h in rw (m, known) refl

now-is : (o : Option (Bor (List ℕ))) (name : List ℕ) (P : List ℕ → Type 0) → option_now o ≡ Some name → IfSome o (λ n. P n.now) → P name
now-is None name P e h = absurd cc
now-is (Some x) name P e h = let same : x.now ≡ name = cc in subst P same h

pub ready-same : (f : LineFields) (o : Option (List ℕ)) (rows : List (List ℕ)) (lines : DataLines) (r : Rows) (c : ColumnTable)
    → is_marker f ≡ false → option_now c.current ≡ Some (field 0 f) → ColumnsFit (length rows) c
    → ColumnsTell o rows lines.columns [] c → InColumns lines r c → IsReady f o rows lines.columns r c
ready-same f o rows lines r c m current fit h at =
    let own : list_any (bytes_eq (field 0 f)) (columns_named lines.columns) ≡ true =
    ap (list_any (bytes_eq (field 0 f))) (sym h.names ∙ fit.done ∙ ap (λ n. map (λ (k : TableColumn). k.name) c.done ++ option_to_list n) current)
    ∙ any-last (field 0 f) (map (λ (k : TableColumn). k.name) c.done) in
    let same = names-known f lines.columns m own in
    record {
      tells = now-is c.current (field 0 f) (λ n. HoldsNumbers o rows (number_beside (column_pairs lines.columns n)) c.current_column) current h.opened;
      stamps = now-is c.current (field 0 f) (λ n. StampsAre r.stamps.items (length (names_of c.names)) (names_of r.names)
          (λ row. list_any (λ other. bytes_eq row other.0) (column_pairs lines.columns n))) current at.stamps;
      low = at.low;
      all = h.names ∙ sym same;
      begun = h.begun;
      states = h.states ∙ sym (values-same f lines.columns (columns_named lines.columns) (λ n k. nearest-stands f lines.columns n m (sym at.current ∙ current)))
          ∙ ap (map (parsed_values (f ∷ lines.columns) [])) (sym same);
      done = h.done;
    }

pub none-stamped : (stamps : List ℕ) (ns : List (List ℕ)) (most : ℕ) (has : List ℕ → Bool) → length stamps ≡ length ns
    → AllByRecursion (λ s. s ≤ most) stamps → ((n : List ℕ) → has n ≡ false) → StampsAre stamps (most + 1) ns has
none-stamped [] [] most has size low h = refl
none-stamped (s ∷ stamps) (n ∷ ns) most has size low h =
    let under = low.0 in
    let other : (s == most + 1) ≡ false = ne_eqb s (most + 1) (λ e. omega arith) in
    rw (other, h n) (ap (λ bs. false ∷ bs) (none-stamped stamps ns most has (omega arith) low.1 h))
none-stamped _ _ most has size low h = absurd (omega arith)

low-up : (stamps : List ℕ) (a b : ℕ) → a ≤ b → AllByRecursion (λ s. s ≤ a) stamps → AllByRecursion (λ s. s ≤ b) stamps
low-up [] a b le h = tt
low-up (s ∷ stamps) a b le h = let under = h.0 in (omega arith, low-up stamps a b le h.1)

pub ready-added : (f : LineFields) (o : Option (List ℕ)) (rows : List (List ℕ)) (lines : List LineFields) (r : Rows) (old c : ColumnTable)
    → is_marker f ≡ false → length r.stamps.items ≡ length (names_of r.names)
    → names_of old.names ≡ columns_named lines → AreStampsUpTo (length (names_of old.names)) r → ColumnAdded o rows lines (field 0 f) c
    → IsReady f o rows lines r c
ready-added f o rows lines r old c m stamped names-old low h =
    let count : length (names_of c.names) ≡ length (names_of old.names) + 1 = ap length h.all ∙ length-append (columns_named lines) (field 0 f ∷ [])
    ∙ ap (λ (ns : List (List ℕ)). length ns + 1) (sym names-old) in
    let unknown : list_any (λ other. bytes_eq (field 0 f) (field 0 other)) (column_lines lines) ≡ false = sym (columns-any (field 0 f) lines) ∙ h.fresh in
    let fresh = names-fresh f lines m h.fresh in
    record {
      tells = record {
        cost = h.cost ∙ ap (λ ps. number_beside ps (unwrap_or o [])) (sym (no-pairs (field 0 f) lines unknown));
        entries = λ p n at. ap (number_at_place p) h.entries ∙ ap (λ ps. number_beside ps n) (sym (no-pairs (field 0 f) lines unknown));
      };
      stamps = subst (λ (k : ℕ). StampsAre r.stamps.items k (names_of r.names) (λ row. list_any (λ other. bytes_eq row other.0)
          (column_pairs lines (field 0 f)))) (sym count)
          (none-stamped r.stamps.items (names_of r.names) (length (names_of old.names))
          (λ row. list_any (λ other. bytes_eq row other.0) (column_pairs lines (field 0 f))) stamped low
          (λ n. ap (list_any (λ other. bytes_eq n other.0)) (no-pairs (field 0 f) lines unknown)));
      low = low-up r.stamps.items (length (names_of old.names)) (length (names_of c.names)) (omega arith) low;
      all = h.all ∙ sym fresh;
      begun = h.begun;
      states = h.states ∙ ap (λ vs. vs ++ (is_integer_open lines, pos 0, None) ∷ [])
          (sym (values-same f lines (columns_named lines) (λ n k. other-stands f lines n m (differs n (field 0 f) (columns_named lines) k h.fresh))))
          ∙ ap (λ b. map (parsed_values (f ∷ lines) []) (columns_named lines) ++ (b, pos 0, None) ∷ [])
          (sym (own-integer (is_integer_open lines)) ∙ ap (λ b. b || false) (sym (own-stands f lines (field 0 f) m (own_name (field 0 f)))))
          ∙ sym (map-append (parsed_values (f ∷ lines) []) (columns_named lines) (field 0 f ∷ [])) ∙ ap (map (parsed_values (f ∷ lines) [])) (sym fresh);
      done = h.done;
    }
  where
    own-integer : (b : Bool) → (b || false) ≡ b
    own-integer true = refl
    own-integer false = refl

all-last : (ks : List TableColumn) (name : List ℕ) → IsDistinct bytes_eq (map (λ (k : TableColumn). k.name) ks ++ name ∷ [])
    → AllByRecursion (λ (k : TableColumn). bytes_eq k.name name ≡ false) ks
unfolding IsDistinct
all-last [] name d = tt
all-last (k ∷ ks) name d = (last-of (map (λ (k : TableColumn). k.name) ks) d.0, all-last ks name d.1)
  where
    last-of : (ns : List (List ℕ)) → AllByRecursion (λ y. bytes_eq k.name y ≡ false) (ns ++ name ∷ []) → bytes_eq k.name name ≡ false
    last-of [] h = h.0
    last-of (n ∷ ns) h = last-of ns h.1

done-more : (f : LineFields) (o : Option (List ℕ)) (rows : List (List ℕ)) (lines : List LineFields) (ks : List TableColumn)
    → is_marker f ≡ false → AllByRecursion (λ (k : TableColumn). bytes_eq k.name (field 0 f) ≡ false) ks
    → AllByRecursion (λ (k : TableColumn). k ≡ gathered_column o rows lines k.name) ks
    → AllByRecursion (λ (k : TableColumn). k ≡ gathered_column o rows (f ∷ lines) k.name) ks
done-more f o rows lines [] m d h = tt
done-more f o rows lines (k ∷ ks) m d h =
    let same : (n : List ℕ) → number_beside (column_pairs lines k.name) n ≡ number_beside (column_pairs (f ∷ lines) k.name) n
    = λ n. ap (λ ps. number_beside ps n) (sym (pairs-other k.name f lines m d.0)) in (
      h.0 ∙ ap (λ z. record { name = k.name; bounds = ZeroOrOne; cost = z; entries = entries_at 0 (number_beside (column_pairs lines k.name)) rows })
          (same (unwrap_or o []))
          ∙ ap (λ es. record {
            name = k.name;
            bounds = ZeroOrOne;
            cost = number_beside (column_pairs (f ∷ lines) k.name) (unwrap_or o []);
            entries =
                es;
          }) (entries_at-same 0 _ _ rows same),
      done-more f o rows lines ks m d.1 h.1,
    )

pub line-tells : (f : LineFields) (o : Option (List ℕ)) (rows : List (List ℕ)) (lines : List LineFields) (r : Rows) (c : ColumnTable) (column : OpenColumn)
    → is_marker f ≡ false → ColumnsFit (length rows) c → option_now c.current ≡ Some (field 0 f) → IsReady f o rows lines r c
    → HoldsNumbers o rows (number_beside (pairs (drop 1 f) ++ column_pairs lines (field 0 f))) column
    → ColumnsTell o rows (f ∷ lines) [] (record c { current_column = column })
line-tells f o rows lines r c column m fit current h tells =
    let split : names_of c.names ≡ map (λ (k : TableColumn). k.name) c.done ++ field 0 f ∷ [] =
    fit.done ∙ ap (λ n. map (λ (k : TableColumn). k.name) c.done ++ option_to_list n) current in
    record {
      names = h.all;
      begun = h.begun ∙ rw m refl;
      states = h.states;
      done = done-more f o rows lines c.done m (all-last c.done (field 0 f) (subst (λ ns. IsDistinct bytes_eq ns) split fit.distinct)) h.done;
      opened = now-from (λ n. HoldsNumbers o rows (number_beside (column_pairs (f ∷ lines) n)) column) c.current (Some (field 0 f)) current
          (subst (λ ps. HoldsNumbers o rows (number_beside ps) column) (sym (pairs-own f lines m)) tells);
      closed = λ e. absurd (both_ways (is_some c.current) e (some-current c.current (field 0 f) current));
    }

pub line-stays : (f : LineFields) (lines : DataLines) (r new : Rows) (c : ColumnTable) (column : OpenColumn) → is_marker f ≡ false
    → lines.right_sides ≡ [] → lines.bounds ≡ []
    → option_now c.current ≡ Some (field 0 f) → new.names ≡ r.names
    → AreStampsUpTo (length (names_of c.names)) new
    → StampsAre new.stamps.items (length (names_of c.names)) (names_of r.names) (λ row. list_any (λ other. bytes_eq row other.0)
    (pairs (drop 1 f) ++ column_pairs lines.columns (field 0 f)))
    → InColumns (record lines { columns = f ∷ lines.columns }) new (record c { current_column = column })
line-stays f lines r new c column m no_rights no_bounds current kept low stamps =
    record {
      no_rights = no_rights;
      no_bounds = no_bounds;
      low = low;
      current = current ∙ rw m refl;
      stamps = now-from (λ n. StampsAre new.stamps.items (length (names_of c.names)) (names_of new.names)
          (λ row. list_any (λ other. bytes_eq row other.0) (column_pairs (f ∷ lines.columns) n))) c.current (Some (field 0 f)) current
          (subst (λ ps. StampsAre new.stamps.items (length (names_of c.names)) (names_of new.names)
          (λ row. list_any (λ other. bytes_eq row other.0) ps)) (sym (pairs-own f lines.columns m))
          (subst (λ ns. StampsAre new.stamps.items (length (names_of c.names)) (names_of ns)
          (λ row. list_any (λ other. bytes_eq row other.0) (pairs (drop 1 f) ++ column_pairs lines.columns (field 0 f)))) (sym kept) stamps));
    }

-- ---- faults

split-lines : (lines : List LineFields) (c : Option (Bor (List ℕ))) (name : List ℕ) → option_now c ≡ nearest_column lines
    → (list_any (λ fields. bytes_eq name (field 0 fields)) (column_lines lines) && option_map_or (λ nearest. is_marker nearest
    || not (bytes_eq name (field 0 nearest))) (slice_get lines 0) false)
    ≡ (not (is_current c name) && list_any (bytes_eq name) (columns_named lines))
split-lines [] c name e = sym (and_comm (not (is_current c name)) false)
split-lines (g ∷ lines) c name e =
    ap (λ b. b && (is_marker g || not (bytes_eq name (field 0 g)))) (sym (columns-any name (g ∷ lines))) ∙ by (is_marker g) refl c e
  where
    by : (b : Bool) → is_marker g ≡ b → (c : Option (Bor (List ℕ))) → option_now c ≡ (if is_marker g then None else Some (field 0 g))
        → (list_any (bytes_eq name) (columns_named (g ∷ lines)) && (is_marker g || not (bytes_eq name (field 0 g))))
        ≡ (not (is_current c name) && list_any (bytes_eq name) (columns_named (g ∷ lines)))
    by true m None e = ap (λ b. list_any (bytes_eq name) (columns_named (g ∷ lines)) && (b || not (bytes_eq name (field 0 g)))) m
        ∙ and_comm (list_any (bytes_eq name) (columns_named (g ∷ lines))) true
    by true m (Some x) e = absurd (let none : Some x.now ≡ None = e ∙ rw m refl in cc)
    by false m None e = absurd (let some : None ≡ Some (field 0 g) = e ∙ rw m refl in cc)
    by false m (Some x) e =
        let some : Some x.now ≡ Some (field 0 g) = e ∙ rw m refl in
        let same : x.now ≡ field 0 g = cc in
        ap (λ b. list_any (bytes_eq name) (columns_named (g ∷ lines)) && (b || not (bytes_eq name (field 0 g)))) m
        ∙ and_comm (list_any (bytes_eq name) (columns_named (g ∷ lines))) (not (bytes_eq name (field 0 g)))
        ∙ ap (λ n. not (bytes_eq name n) && list_any (bytes_eq name) (columns_named (g ∷ lines))) (sym same)

pub split-is : (before : Sections) (c : ColumnTable) (name : List ℕ) → option_now c.current ≡ nearest_column before.columns
    → names_of c.names ≡ columns_named before.columns
    → is_split before.columns name ≡ (not (is_current c.current name) && list_any (bytes_eq name) (names_of c.names))
split-is before c name current all =
    split-lines before.columns c.current name current ∙ ap (λ ns. not (is_current c.current name) && list_any (bytes_eq name) ns) (sym all)

pub pairs-fault : (before : Sections) (f : LineFields) → ((length f == 3) || (length f == 5)) ≡ true → is_marker f ≡ false
    → is_split before.columns (field 0 f) ≡ false
    → column_fault before f ≡ pairs_fault before.rows None (column_pairs before.columns (field 0 f)) (pairs (drop 1 f))
pairs-fault before f count m split = rw (count, m, split) (last-one (pairs_fault before.rows None (column_pairs before.columns (field 0 f)) (pairs (drop 1 f))))

pub split-fault : (before : Sections) (f : LineFields) → ((length f == 3) || (length f == 5)) ≡ true → is_marker f ≡ false
    → is_split before.columns (field 0 f) ≡ true → column_fault before f ≡ Some ColumnSplit
split-fault before f count m split = rw (count, m, split) refl

-- ---- the column of a line

pub ready-of : (f : LineFields) (o : Option (List ℕ)) (lines : DataLines) (r : Rows) (old mid : ColumnTable) (name : List ℕ)
    → is_marker f ≡ false → field 0 f ≡ name → RowsFit r
    → (is_current old.current name ≡ true → mid ≡ old)
    → (is_current old.current name ≡ false → (o : Option (List ℕ)) (rows : List (List ℕ)) (lines : List LineFields) → ColumnsFit (length rows) old
    → ColumnsTell o rows lines [] old → ColumnAdded o rows lines name mid)
    → ColumnsFit (length r.rows.items) old → ColumnsTell o (declared_row_names r.rows.items) lines.columns [] old → InColumns lines r old
    → IsReady f o (declared_row_names r.rows.items) lines.columns r mid
ready-of f o lines r old mid name m named rows_fit same added fit h at = by (is_current old.current name) refl
  where
    fits : ColumnsFit (length (declared_row_names r.rows.items)) old
    fits = subst (λ n. ColumnsFit n old) (sym (length-names r.rows.items)) fit

    by : (b : Bool) → is_current old.current name ≡ b → IsReady f o (declared_row_names r.rows.items) lines.columns r mid
    by true e = subst (λ c. IsReady f o (declared_row_names r.rows.items) lines.columns r c) (sym (same e))
        (ready-same f o (declared_row_names r.rows.items) lines r old m (current-is old.current name e ∙ ap (λ n. Some n) (sym named)) fits h at)
    by false e = ready-added f o (declared_row_names r.rows.items) lines.columns r old mid m (rows_fit.stamps ∙ sym (length-bytes r.names.keys)) h.names at.low
        (subst (λ n. ColumnAdded o (declared_row_names r.rows.items) lines.columns n mid) (sym named)
        (added e o (declared_row_names r.rows.items) lines.columns fits h))

pub split-refused : (before : Sections) (f : LineFields) (c : ColumnTable) (name : List ℕ) (kind : MpsFaultKind)
    → ((length f == 3) || (length f == 5)) ≡ true → is_marker f ≡ false → field 0 f ≡ name
    → option_now c.current ≡ nearest_column before.columns → names_of c.names ≡ columns_named before.columns
    → when (not (is_current c.current name) && list_any (bytes_eq name) (names_of c.names)) ColumnSplit ≡ Some kind → column_fault before f ≡ Some kind
split-refused before f c name kind count m named current all h = by (not (is_current c.current name) && list_any (bytes_eq name) (names_of c.names)) refl h
  where
    by : (b : Bool) → (not (is_current c.current name) && list_any (bytes_eq name) (names_of c.names)) ≡ b → when b ColumnSplit ≡ Some kind
        → column_fault before f ≡ Some kind
    by true e k = split-fault before f count m (ap (is_split before.columns) named ∙ split-is before c name current all ∙ e) ∙ k
    by false e k = absurd cc

pub not-split : (before : Sections) (f : LineFields) (c : ColumnTable) (name : List ℕ) → field 0 f ≡ name
    → option_now c.current ≡ nearest_column before.columns → names_of c.names ≡ columns_named before.columns
    → when (not (is_current c.current name) && list_any (bytes_eq name) (names_of c.names)) ColumnSplit ≡ None → is_split before.columns (field 0 f) ≡ false
not-split before f c name named current all h =
    ap (is_split before.columns) named ∙ split-is before c name current all ∙ by (not (is_current c.current name)
    && list_any (bytes_eq name) (names_of c.names)) h
  where
    by : (b : Bool) → when b ColumnSplit ≡ None → b ≡ false
    by true k = absurd cc
    by false k = refl
