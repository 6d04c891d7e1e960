-- Columns are those of the lines so far.
use Rattle.std.proofs.Common.{◌≡◌, ◌≢◌, ℕ, suc, ◌+◌, ◌≤◌, ◌<◌, Bool, true, false, List, [], ◌∷◌, ◌++◌, length, map, refl}
use Rattle.std.proofs.Common.{sym, ap, subst, ◌∙◌, arith, Option, Some, None, ℤ, pos, inl, inr}
use Rattle.std.specs.Prelude.{◌⊎◌, ◌==◌, slice_get, bytes_eq, unwrap_or, is_some, IfSome}
use Rattle.std.specs.List.{list_any, AllByRecursion, IsDistinct}
use Rattle.std.specs.List.Sorted.{IsPermutation, IsNonDecreasingBy}
use Rattle.std.specs.Ordering.{int_eq}
use Rattle.std.proofs.Math.Nat.{eq-or-lt_of_le}
use Rattle.std.proofs.lemmas.List.Sorted.{All-permutation, list_any-IsPermutation}
use Rattle.std.proofs.lemmas.List.Elements.{All-from_recursion, recursion_from_All}
use Rattle.std.proofs.lemmas.Bool.{ne_eqb, eq-eqb, eqb-true, false_from_ne_true}
use Rattle.std.proofs.lemmas.List.{map_push}
use Rattle.std.proofs.lemmas.Bool.Decides.{Decides-int_eq}
use denote.Ref.{Bor}
use Rattle.program_rows.specs.declared.column.Bounds.TheVariants.{ZeroOrOne}
use Rattle.program_rows.specs.Program.{TableColumn}
use Rattle.program_rows.specs.Parts.{AreEntries}
use Rattle.auction_terms.specs.LineFields.{LineFields}
use Rattle.program_rows.specs.MpsProgram.{columns_named, column_pairs, number_beside}
use Rattle.mps_reader.specs.inside.Columns.{same_place, ColumnsFit, AddsColumn, entries_at}
use Rattle.mps_reader.specs.inside.Rows.{names_of}
use Rattle.mps_reader.specs.inside.Tracking.{number_at_place, HoldsNumbers, ColumnsTell, ColumnAdded, gathered_column, parsed_values, state_values}
use Rattle.mps_reader.specs.declared.tables.ColumnTable.{ColumnTable}
use Rattle.mps_reader.proofs.NameFacts.{all-push}
use Rattle.mps_reader.proofs.EntryFacts.{sorted-entries}
use Rattle.mps_reader.proofs.PairFacts.{self-eq, worth-none}

-- ---- the number at a place, in any order

others-at : (x : ℕ × ℤ) (xs ys : List (ℕ × ℤ)) → AllByRecursion (λ y. same_place x y ≡ false) ys
    → AllByRecursion (λ e. number_at_place e.0 xs ≡ e.1) ys → AllByRecursion (λ e. number_at_place e.0 (x ∷ xs) ≡ e.1) ys
others-at x xs [] a h = tt
others-at x xs (y ∷ ys) a h = (rw (a.0) h.0, others-at x xs ys a.1 h.1)

worth-own : (xs : List (ℕ × ℤ)) → IsDistinct same_place xs → AllByRecursion (λ e. number_at_place e.0 xs ≡ e.1) xs
unfolding IsDistinct
worth-own [] d = tt
worth-own (x ∷ xs) d = (rw (self-eq x.0) refl, others-at x xs xs d.0 (worth-own xs d.1))

any-none : (p : ℕ) (xs : List (ℕ × ℤ)) → list_any (λ e. e.0 == p) xs ≡ false → AllByRecursion (λ e. (e.0 == p) ≡ false) xs
any-none p [] h = tt
any-none p (x ∷ xs) h = by (x.0 == p) refl (any-none p xs)
  where
    by : (b : Bool) → (x.0 == p) ≡ b → (list_any (λ e. e.0 == p) xs ≡ false → AllByRecursion (λ e. (e.0 == p) ≡ false) xs)
        → AllByRecursion (λ e. (e.0 == p) ≡ false) (x ∷ xs)
    by true e more = let first : list_any (λ q. q.0 == p) (x ∷ xs) ≡ true = rw e refl in absurd (let clash : true ≡ false = sym first ∙ h in cc)
    by false e more = (e, more (let rest : list_any (λ q. q.0 == p) xs ≡ list_any (λ q. q.0 == p) (x ∷ xs) = rw e refl in rest ∙ h))

any-pick : (p : ℕ) (f g : ℕ → ℤ) (xs : List (ℕ × ℤ)) → list_any (λ e. e.0 == p) xs ≡ true → AllByRecursion (λ e. f e.0 ≡ e.1) xs
    → AllByRecursion (λ e. g e.0 ≡ e.1) xs → f p ≡ g p
any-pick p f g [] h a b = absurd cc
any-pick p f g (x ∷ xs) h a b = by (x.0 == p) refl (any-pick p f g xs)
  where
    by : (t : Bool) → (x.0 == p) ≡ t → (list_any (λ e. e.0 == p) xs ≡ true → AllByRecursion (λ e. f e.0 ≡ e.1) xs
        → AllByRecursion (λ e. g e.0 ≡ e.1) xs → f p ≡ g p) → f p ≡ g p
    by true e more = subst (λ q. f q ≡ g q) (eqb-true _ _ e) (a.0 ∙ sym b.0)
    by false e more = more (let rest : list_any (λ q. q.0 == p) xs ≡ list_any (λ q. q.0 == p) (x ∷ xs) = rw e refl in rest ∙ h) a.1 b.1

-- a permutation of entries, each place once, has the same number at each place
pub worth-moved : (xs ys : List (ℕ × ℤ)) (p : ℕ) → IsPermutation xs ys → IsDistinct same_place xs → IsDistinct same_place ys
    → number_at_place p ys ≡ number_at_place p xs
worth-moved xs ys p moved dx dy = by (list_any (λ e. e.0 == p) ys) refl
  where
    own : AllByRecursion (λ e. number_at_place e.0 ys ≡ e.1) ys
    own = worth-own ys dy

    other : AllByRecursion (λ e. number_at_place e.0 xs ≡ e.1) ys
    other = recursion_from_All (λ e. number_at_place e.0 xs ≡ e.1) ys (All-permutation (λ e. number_at_place e.0 xs ≡ e.1) xs ys moved
        (All-from_recursion (λ e. number_at_place e.0 xs ≡ e.1) xs (worth-own xs dx)))

    by : (b : Bool) → list_any (λ e. e.0 == p) ys ≡ b → number_at_place p ys ≡ number_at_place p xs
    by true h = any-pick p (λ q. number_at_place q ys) (λ q. number_at_place q xs) ys h own other
    by false h = worth-none p ys (any-none p ys h) ∙ sym (worth-none p xs (any-none p xs (list_any-IsPermutation (λ e. e.0 == p) xs ys moved ∙ h)))

-- ---- entries in row order are those of the numbers

after : (p : ℕ) (es : List (ℕ × ℤ)) → AllByRecursion (λ e. p < e.0) es → AllByRecursion (λ e. (e.0 == p) ≡ false) es
after p [] h = tt
after p (e ∷ es) h = let up = h.0 in (ne_eqb e.0 p (λ same. omega arith), after p es h.1)

above : (k i : ℕ) (es : List (ℕ × ℤ)) → k ≤ i → AllByRecursion (λ e. i < e.0) es → AllByRecursion (λ e. k < e.0) es
above k i [] le h = tt
above k i (e ∷ es) le h = let lt = h.0 in (omega arith, above k i es le h.1)

from-next : (k : ℕ) (es : List (ℕ × ℤ)) → AllByRecursion (λ e. k < e.0) es → AllByRecursion (λ e. suc k ≤ e.0) es
from-next k [] h = tt
from-next k (e ∷ es) h = let lt = h.0 in (omega arith, from-next k es h.1)

zero-eq : (z : ℤ) → z ≡ pos 0 → int_eq z (pos 0) ≡ true
zero-eq z e = (Decides-int_eq z (pos 0)).1 e

not-zero : (z : ℤ) → z ≢ pos 0 → int_eq z (pos 0) ≡ false
not-zero z h = false_from_ne_true _ (λ e. h ((Decides-int_eq z (pos 0)).0 e))

more-rows : (a b : ℕ) (es : List (ℕ × ℤ)) → a ≡ b → AreEntries a es → AreEntries b es
more-rows a b es e h = subst (λ n. AreEntries n es) e h

pub entries-parsed : (k : ℕ) (f : List ℕ → ℤ) (rows : List (List ℕ)) (es : List (ℕ × ℤ)) → AllByRecursion (λ e. k ≤ e.0) es → AreEntries (k + length rows) es
    → ((j : ℕ) (n : List ℕ) → slice_get rows j ≡ Some n → number_at_place (k + j) es ≡ f n) → entries_at k f rows ≡ es
entries-parsed k f [] [] from legal h = refl
entries-parsed k f [] (e ∷ es) from legal h = let a = legal.0 in let b = from.0 in absurd (omega arith)
entries-parsed k f (n ∷ rows) [] from legal h =
    let none : f n ≡ pos 0 = sym (h 0 n refl) in
    rw (zero-eq (f n) none) (entries-parsed (suc k) f rows [] tt tt (λ j m at. h (suc j) m at))
entries-parsed k f (n ∷ rows) (e ∷ es) from legal h =
    by (eq-or-lt_of_le from.0)
    (λ same. entries-parsed (suc k) f rows es (from-next k es (subst (λ q. AllByRecursion (λ e. q < e.0) es) (sym same) legal.2))
    (more-rows _ _ es (omega arith) legal.3)
    (λ j m at. let other : (e.0 == k + suc j) ≡ false = ne_eqb e.0 (k + suc j) (λ q. omega arith) in
    let there : number_at_place (k + suc j) es ≡ f m = let whole : number_at_place (k + suc j) (e ∷ es) ≡ number_at_place (k + suc j) es =
    rw other refl in sym whole ∙ h (suc j) m at in
    subst (λ q. number_at_place q es ≡ f m) (omega arith) there))
    (λ lt. entries-parsed (suc k) f rows (e ∷ es) (omega arith, from-next k es (above k e.0 es (omega arith) legal.2))
    (more-rows _ _ (e ∷ es) (omega arith) legal)
    (λ j m at. subst (λ q. number_at_place q (e ∷ es) ≡ f m) (omega arith) (h (suc j) m at)))
  where
    by : (k ≡ e.0) ⊎ (k < e.0) → (k ≡ e.0 → entries_at (suc k) f rows ≡ es) → (k < e.0 → entries_at (suc k) f rows ≡ e ∷ es)
        → entries_at k f (n ∷ rows) ≡ e ∷ es
    by (inl same) here next =
        let there : (e.0 == k + 0) ≡ true = eq-eqb e.0 (k + 0) (omega arith) in
        let whole : number_at_place (k + 0) (e ∷ es) ≡ e.1 = rw there refl in
        let number : f n ≡ e.1 = sym (h 0 n refl) ∙ whole in
        rw (number, not-zero e.1 legal.1, here same, same) refl
    by (inr lt) here next =
        let other : (e.0 == k + 0) ≡ false = ne_eqb e.0 (k + 0) (λ q. omega arith) in
        let whole : number_at_place (k + 0) (e ∷ es) ≡ number_at_place (k + 0) es = rw other refl in
        let none : f n ≡ pos 0 = sym (h 0 n refl) ∙ whole ∙ worth-none (k + 0) es (after (k + 0) es (above (k + 0) e.0 es (omega arith) legal.2)) in
        rw (zero-eq (f n) none) (next lt)

entries-distinct : (count : ℕ) (es : List (ℕ × ℤ)) → AreEntries count es → IsDistinct same_place es
unfolding IsDistinct
entries-distinct count [] a = tt
entries-distinct count (e ∷ es) a = (apart es a.2, entries-distinct count es a.3)
  where
    apart : (xs : List (ℕ × ℤ)) → AllByRecursion (λ later. e.0 < later.0) xs → AllByRecursion (λ y. same_place e y ≡ false) xs
    apart [] a = tt
    apart (x ∷ xs) a = let lt = a.0 in (ne_eqb e.0 x.0 (λ q. omega arith), apart xs a.1)

-- ---- a column ends, and another begins

pub closed-tells : (o : Option (List ℕ)) (rows : List (List ℕ)) (lines bounds : List LineFields) (old new : ColumnTable)
    (sorted : List (ℕ × ℤ)) (name : Bor (List ℕ)) (cost : ℤ)
    → ColumnsFit (length rows) old → old.current ≡ Some name → cost ≡ old.current_column.cost
    → IsPermutation old.current_column.entries.items sorted → IsNonDecreasingBy (λ (e : ℕ × ℤ). e.0) sorted
    → new.names ≡ old.names → new.states ≡ old.states → new.is_begun ≡ old.is_begun
    → new.done ≡ old.done ++ record { name = name.now; bounds = ZeroOrOne; cost = cost; entries = sorted } ∷ [] → new.current ≡ None
    → new.current_column.cost ≡ pos 0
    → ColumnsFit (length rows) new → ColumnsTell o rows lines bounds old → ColumnsTell o rows lines bounds new
closed-tells o rows lines bounds old new sorted name cost fit current spent moved up names states begun done none nothing newfit h = record {
  names = ap names_of names ∙ h.names;
  begun = begun ∙ h.begun;
  states = ap (λ s. map state_values s.items) states ∙ h.states;
  done = subst (λ ks. AllByRecursion (λ (k : TableColumn). k ≡ gathered_column o rows lines k.name) ks) (sym done)
      (all-push (λ (k : TableColumn). k ≡ gathered_column o rows lines k.name) old.done last h.done parsed);
  opened = subst (λ c. IfSome c (λ n. HoldsNumbers o rows (number_beside (column_pairs lines n.now)) new.current_column)) (sym none) tt;
  closed = λ e. nothing;
}
  where
    last : TableColumn
    last = record { name = name.now; bounds = ZeroOrOne; cost = cost; entries = sorted }

    current-tells : HoldsNumbers o rows (number_beside (column_pairs lines name.now)) old.current_column
    current-tells = subst (λ c. IfSome c (λ n. HoldsNumbers o rows (number_beside (column_pairs lines n.now)) old.current_column)) current h.opened

    legal : AreEntries (length rows) sorted
    legal = sorted-entries (length rows) old.current_column.entries.items sorted moved up fit.opened

    from : (es : List (ℕ × ℤ)) → AllByRecursion (λ e. 0 ≤ e.0) es
    from [] = tt
    from (e ∷ es) = (omega arith, from es)

    entries : sorted ≡ entries_at 0 (number_beside (column_pairs lines name.now)) rows
    entries = sym (entries-parsed 0 (number_beside (column_pairs lines name.now)) rows sorted (from sorted) (more-rows _ _ sorted (omega arith) legal)
        (λ j n at. subst (λ q. number_at_place q sorted ≡ number_beside (column_pairs lines name.now) n) (omega arith)
        (worth-moved old.current_column.entries.items sorted j moved fit.opened.distinct (entries-distinct (length rows) sorted legal)
        ∙ current-tells.entries j n at)))

    parsed : last ≡ gathered_column o rows lines name.now
    parsed = ap (λ z. record { name = name.now; bounds = ZeroOrOne; cost = z; entries = sorted }) (spent ∙ current-tells.cost)
        ∙ ap (λ es. record { name = name.now; bounds = ZeroOrOne; cost = number_beside (column_pairs lines name.now) (unwrap_or o []); entries = es }) entries

pub added-tells : (o : Option (List ℕ)) (rows : List (List ℕ)) (lines : List LineFields) (old new : ColumnTable) (name : List ℕ)
    → ColumnsFit (length rows) old → is_some old.current ≡ false → AddsColumn name old new → ColumnsTell o rows lines [] old
    → ColumnAdded o rows lines name new
added-tells o rows lines old new name fit none adds h = record {
  fresh = ap (list_any (bytes_eq name)) (sym h.names) ∙ adds.fresh;
  all = adds.names ∙ ap (λ ns. ns ++ name ∷ []) h.names;
  begun = adds.begun ∙ h.begun;
  states = ap (map state_values) adds.states ∙ map_push state_values old.states.items _ ∙ ap (λ ss. ss ++ (old.is_begun, pos 0, None) ∷ []) h.states
      ∙ ap (λ b. map (parsed_values lines []) (columns_named lines) ++ (b, pos 0, None) ∷ []) h.begun;
  done = subst (λ ks. AllByRecursion (λ (k : TableColumn). k ≡ gathered_column o rows lines k.name) ks) (sym adds.done) h.done;
  cost = ap (λ c. c.cost) adds.opened ∙ h.closed none;
  entries = ap (λ c. c.entries.items) adds.opened ∙ fit.closed none;
}
