-- What a pair of row and number leaves of stamps and of the current column.
use Rattle.std.proofs.Common.{◌≡◌, ◌≢◌, ℕ, zero, suc, ◌+◌, Bool, true, false, ◌||◌, List, [], ◌∷◌, ◌++◌, map, refl, sym, ap}
use Rattle.std.proofs.Common.{subst, ◌∙◌, arith, Option, Some, None, ℤ, pos}
use Rattle.program_rows.proofs.NamedItemFacts.{bytes_flip}
use Rattle.std.specs.Prelude.{◌==◌, slice_get, bytes_eq, unwrap_or, IfSome, if◌then◌else◌}
use Rattle.std.specs.List.{AllByRecursion, IsDistinct, slice_set}
use Rattle.std.specs.Option.{option_map_or}
use Rattle.std.specs.Ordering.{int_eq}
use Rattle.std.proofs.lemmas.Bool.{ne_eqb, eq-eqb, cases_eq}
use Rattle.std.proofs.lemmas.Bool.Decides.{Decides-int_eq}
use mathlib.Core.Logic.{◌⊎◌, inl, inr}
use denote.Ref.{Bor}
use Rattle.program_rows.specs.Parts.{IsName}
use Rattle.mps_reader.specs.inside.Rows.{AreAt, StampsAre, IsObjective, option_now}
use Rattle.mps_reader.specs.inside.Columns.{put_entries}
use Rattle.mps_reader.specs.inside.Tracking.{number_at_place, HoldsNumbers}
use Rattle.mps_reader.specs.declared.tables.OpenColumn.{OpenColumn}
use Rattle.mps_reader.proofs.NameFacts.{same_name, own_name, all-rows, distinct-rows, placed}

pub self-eq : (n : ℕ) → (n == n) ≡ true
self-eq n = eq-eqb n n refl

pub all-at : {A : Type 0} (P : A → Type 0) (xs : List A) (i : ℕ) (x : A) → slice_get xs i ≡ Some x → AllByRecursion P xs → P x
all-at P [] i x e h = absurd cc
all-at P (y ∷ xs) zero x e h = let same : y ≡ x = cc in subst P same h.0
all-at P (y ∷ xs) (suc i) x e h = all-at P xs i x e h.1

-- names at different places differ
pub distinct-at : (ns : List (List ℕ)) (i j : ℕ) (a b : List ℕ) → IsDistinct bytes_eq ns → slice_get ns i ≡ Some a → slice_get ns j ≡ Some b
    → i ≢ j → bytes_eq a b ≡ false
unfolding IsDistinct
distinct-at [] i j a b d e f ne = absurd cc
distinct-at (n ∷ ns) zero zero a b d e f ne = absurd (ne refl)
distinct-at (n ∷ ns) zero (suc j) a b d e f ne =
    let same : n ≡ a = cc in subst (λ x. bytes_eq x b ≡ false) same (all-at (λ y. bytes_eq n y ≡ false) ns j b f d.0)
distinct-at (n ∷ ns) (suc i) zero a b d e f ne =
    let same : n ≡ b = cc in bytes_flip b a (subst (λ x. bytes_eq x a ≡ false) same (all-at (λ y. bytes_eq n y ≡ false) ns i a e d.0))
distinct-at (n ∷ ns) (suc i) (suc j) a b d e f ne = distinct-at ns i j a b d.1 e f (λ q. ne (ap suc q))

-- ---- stamps

without : (row : List ℕ) (has : List ℕ → Bool) (ns : List (List ℕ)) → AllByRecursion (λ y. bytes_eq row y ≡ false) ns
    → map has ns ≡ map (λ n. bytes_eq n row || has n) ns
without row has [] h = refl
without row has (n ∷ ns) h = rw (bytes_flip row n h.0) (ap (λ bs. has n ∷ bs) (without row has ns h.1))

pub stamped-are : (stamp : ℕ) (has : List ℕ → Bool) (stamps : List ℕ) (ns : List (List ℕ)) (i : ℕ) (row : List ℕ) → IsDistinct bytes_eq ns
    → slice_get ns i ≡ Some row → StampsAre stamps stamp ns has
    → StampsAre (slice_set stamps i stamp) stamp ns (λ n. bytes_eq n row || has n)
unfolding IsDistinct
stamped-are stamp has stamps [] i row d e h = absurd cc
stamped-are stamp has [] (n ∷ ns) i row d e h = absurd cc
stamped-are stamp has (s ∷ stamps) (n ∷ ns) zero row d e h =
    let same : n ≡ row = cc in
    let rest : StampsAre stamps stamp ns has = cc in
    rw (self-eq stamp, same, own_name row) (ap (λ bs. true ∷ bs)
    (rest ∙ without row has ns (subst (λ x. AllByRecursion (λ y. bytes_eq x y ≡ false) ns) same d.0)))
stamped-are stamp has (s ∷ stamps) (n ∷ ns) (suc i) row d e h =
    let head : (s == stamp) ≡ has n = cc in
    let rest : StampsAre stamps stamp ns has = cc in
    rw (all-at (λ y. bytes_eq n y ≡ false) ns i row e d.0, head) (ap (λ bs. has n ∷ bs) (stamped-are stamp has stamps ns i row d.1 e rest))

-- ---- the row that a pair names

-- a free row isn't one of the others
pub free-apart : (p : ℕ) (ns : List (List ℕ)) (ps : List (Option ℕ)) (rows : List (List ℕ)) (i : ℕ) (row : List ℕ) → AreAt p ns ps rows
    → IsDistinct bytes_eq ns → slice_get ns i ≡ Some row → slice_get ps i ≡ Some None → AllByRecursion (λ r. bytes_eq row r ≡ false) rows
unfolding IsDistinct
free-apart p [] [] [] i row h d e f = absurd cc
free-apart p (m ∷ ns) (None ∷ ps) rows zero row h d e f =
    let same : m ≡ row = cc in subst (λ x. AllByRecursion (λ r. bytes_eq x r ≡ false) rows) same (all-rows (λ y. bytes_eq m y ≡ false) p ns ps rows h d.0)
free-apart p (m ∷ ns) (None ∷ ps) rows (suc i) row h d e f = free-apart p ns ps rows i row h d.1 e f
free-apart p (m ∷ ns) (Some k ∷ ps) (r ∷ rows) zero row h d e f = absurd cc
free-apart p (m ∷ ns) (Some k ∷ ps) (r ∷ rows) (suc i) row h d e f = (
  subst (λ x. bytes_eq row x ≡ false) (sym h.1) (bytes_flip m row (all-at (λ y. bytes_eq m y ≡ false) ns i row e d.0)),
  free-apart (suc p) ns ps
      rows i row h.2 d.1 e f,
)
free-apart p _ _ _ i row h d e f = absurd h

-- a row with a place is at that place
pub row-at : (p : ℕ) (ns : List (List ℕ)) (ps : List (Option ℕ)) (rows : List (List ℕ)) (i k : ℕ) (row : List ℕ) → AreAt p ns ps rows
    → slice_get ns i ≡ Some row → slice_get ps i ≡ Some (Some (k + p)) → slice_get rows k ≡ Some row
row-at p [] [] [] i k row h e f = absurd cc
row-at p (m ∷ ns) (None ∷ ps) rows zero k row h e f = absurd cc
row-at p (m ∷ ns) (None ∷ ps) rows (suc i) k row h e f = row-at p ns ps rows i k row h e f
row-at p (m ∷ ns) (Some q ∷ ps) (r ∷ rows) zero zero row h e f = let same : m ≡ row = cc in ap (λ n. Some n) (h.1 ∙ same)
row-at p (m ∷ ns) (Some q ∷ ps) (r ∷ rows) zero (suc k) row h e f = let same : q ≡ suc k + p = cc in let at = h.0 in absurd (omega arith)
row-at p (m ∷ ns) (Some q ∷ ps) (r ∷ rows) (suc i) zero row h e f =
    let low = placed (suc p) ns ps rows i p h.2 (f ∙ ap (λ n. Some (Some n)) (omega arith)) in absurd (omega (arith, low.0))
row-at p (m ∷ ns) (Some q ∷ ps) (r ∷ rows) (suc i) (suc k) row h e f = row-at (suc p) ns ps rows i k row h.2 e (f ∙ ap (λ n. Some (Some n)) (omega arith))
row-at p _ _ _ i k row h e f = absurd h

-- ---- the number at a place

pub worth-none : (p : ℕ) (es : List (ℕ × ℤ)) → AllByRecursion (λ e. (e.0 == p) ≡ false) es → number_at_place p es ≡ pos 0
worth-none p [] h = refl
worth-none p (e ∷ es) h = rw (h.0) (worth-none p es h.1)

pub worth-last : (p : ℕ) (v : ℤ) (es : List (ℕ × ℤ)) → AllByRecursion (λ e. (e.0 == p) ≡ false) es → number_at_place p (es ++ (p, v) ∷ []) ≡ v
worth-last p v [] h = rw (self-eq p) refl
worth-last p v (e ∷ es) h = rw (h.0) (worth-last p v es h.1)

pub worth-other : (p q : ℕ) (v : ℤ) (es : List (ℕ × ℤ)) → q ≢ p → number_at_place p (es ++ (q, v) ∷ []) ≡ number_at_place p es
worth-other p q v [] ne = rw (ne_eqb q p ne) refl
worth-other p q v (e ∷ es) ne = by (e.0 == p) (worth-other p q v es ne)
  where
    by : (b : Bool) → number_at_place p (es ++ (q, v) ∷ []) ≡ number_at_place p es → (if b then e.1 else number_at_place p (es ++ (q, v) ∷ []))
        ≡ (if b then e.1 else number_at_place p es)
    by true more = refl
    by false more = more

pub open-put : (objective : Option (Bor (List ℕ))) (ns : List (List ℕ)) (ps : List (Option ℕ)) (rows : List (List ℕ)) (number : List ℕ → ℤ)
    (column after : OpenColumn) (i : ℕ) (row : List ℕ) (cost : Bool) (place : Option ℕ) (v : ℤ)
    → IsDistinct bytes_eq ns → IsName row → AreAt 0 ns ps rows → IfSome objective (λ o. IsObjective ns rows o.now)
    → slice_get ns i ≡ Some row → slice_get ps i ≡ Some place
    → ((p : ℕ) → place ≡ Some p → AllByRecursion (λ e. (e.0 == p) ≡ false) column.entries.items)
    → cost ≡ option_map_or (λ name. bytes_eq row name.now) objective false
    → after.cost ≡ (if cost then v else column.cost) → after.entries.items ≡ put_entries cost place v column.entries.items
    → HoldsNumbers (option_now objective) rows number column
    → HoldsNumbers (option_now objective) rows (λ name. if bytes_eq name row then v else number name) after
open-put objective ns ps rows number column after i row cost place v distinct named at apart here there fresh is_cost spent entries h = record {
  cost = spent ∙ cost-case objective apart is_cost h.cost;
  entries = λ p n e. ap (number_at_place p) entries ∙ at-place p n e cost place is_cost there fresh;
}
  where
    filled : (x : List ℕ) → IsName x → bytes_eq [] x ≡ false
    filled [] h = let low = h.0 in absurd (omega arith)
    filled (b ∷ x) h = refl

    cost-case : (o : Option (Bor (List ℕ))) → IfSome o (λ x. IsObjective ns rows x.now) → cost ≡ option_map_or (λ name. bytes_eq row name.now) o false
        → column.cost ≡ number (unwrap_or (option_now o) [])
        → (if cost then v else column.cost) ≡ (if bytes_eq (unwrap_or (option_now o) []) row then v else number (unwrap_or (option_now o) []))
    cost-case None a is before = rw (is, filled row named) before
    cost-case (Some o) a is before = by (bytes_eq row o.now) refl
      where
        by : (b : Bool) → bytes_eq row o.now ≡ b → (if cost then v else column.cost) ≡ (if bytes_eq o.now row then v else number o.now)
        by true e = rw (is, e, subst (λ x. bytes_eq x row ≡ true) (same_name row o.now e) (own_name row)) refl
        by false e = rw (is, e, bytes_flip row o.now e) before

    apart-cost : (o : Option (Bor (List ℕ))) → IfSome o (λ x. IsObjective ns rows x.now) → option_map_or (λ name. bytes_eq row name.now) o false
        ≡ true → AllByRecursion (λ r. bytes_eq row r ≡ false) rows
    apart-cost None a e = absurd cc
    apart-cost (Some o) a e = subst (λ x. AllByRecursion (λ r. bytes_eq x r ≡ false) rows) (sym (same_name row o.now e)) a.apart

    other : (p : ℕ) (n : List ℕ) → slice_get rows p ≡ Some n → bytes_eq row n ≡ false → number_at_place p column.entries.items
        ≡ (if bytes_eq n row then v else number n)
    other p n e ne = rw (bytes_flip row n ne) (h.entries p n e)

    at-place : (p : ℕ) (n : List ℕ) → slice_get rows p ≡ Some n → (c : Bool) (pl : Option ℕ) → c
        ≡ option_map_or (λ name. bytes_eq row name.now) objective false → slice_get ps i ≡ Some pl
        → ((q : ℕ) → pl ≡ Some q → AllByRecursion (λ e. (e.0 == q) ≡ false) column.entries.items)
        → number_at_place p (put_entries c pl v column.entries.items) ≡ (if bytes_eq n row then v else number n)
    at-place p n e true pl is f a = other p n e (all-at (λ r. bytes_eq row r ≡ false) rows p n e (apart-cost objective apart (sym is)))
    at-place p n e false None is f a = other p n e (all-at (λ r. bytes_eq row r ≡ false) rows p n e (free-apart 0 ns ps rows i row at distinct here f))
    at-place p n e false (Some q) is f a = by (cases_eq q p)
      where
        stands : slice_get rows q ≡ Some row
        stands = row-at 0 ns ps rows i q row at here (f ∙ ap (λ k. Some (Some k)) (omega arith))

        equal : (z : Bool) → int_eq v (pos 0) ≡ z → number_at_place q (if z then column.entries.items else column.entries.items ++ (q, v) ∷ []) ≡ v
        equal true e = worth-none q column.entries.items (a q refl) ∙ sym ((Decides-int_eq v (pos 0)).0 e)
        equal false e = worth-last q v column.entries.items (a q refl)

        apart-place : (z : Bool) → q ≢ p → number_at_place p (if z then column.entries.items else column.entries.items ++ (q, v) ∷ [])
            ≡ number_at_place p column.entries.items
        apart-place true ne = refl
        apart-place false ne = worth-other p q v column.entries.items ne

        by : (q ≡ p) ⊎ (q ≡ p → ⊥) → number_at_place p (put_entries false (Some q) v column.entries.items) ≡ (if bytes_eq n row then v else number n)
        by (inl same) =
            let name : n ≡ row = let at-p : slice_get rows p ≡ Some row = subst (λ k. slice_get rows k ≡ Some row) same stands in cc in
            subst (λ k. number_at_place k (put_entries false (Some q) v column.entries.items) ≡ (if bytes_eq n row then v else number n)) same
            (rw (name, own_name row) (equal (int_eq v (pos 0)) refl))
        by (inr ne) = apart-place (int_eq v (pos 0)) ne ∙ other p n e (distinct-at rows q p row n (distinct-rows 0 ns ps rows at distinct) stands e ne)
