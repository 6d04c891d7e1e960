-- Names, and the places of rows among them.
use Rattle.std.proofs.Common.{◌≡◌, ◌∙◌, ℕ, zero, suc, ◌+◌, ◌<◌, ◌≤◌, Bool, true, false, not, ◌||◌, List, [], ◌∷◌, ◌++◌}
use Rattle.std.proofs.Common.{length, refl, sym, ap, subst, arith, Option, Some, None}
use Rattle.std.proofs.lemmas.List.{length-map}
use Rattle.std.specs.Prelude.{bytes_eq, slice_get, is_some, IfSome, if◌then◌else◌}
use Rattle.std.specs.Option.{option_map_or}
use Rattle.std.specs.List.{list_any, AllByRecursion, IsDistinct}
use Rattle.std.proofs.lemmas.Slice.Eq.{bytes_eq-Decides}
use Rattle.std.proofs.lemmas.List.Folds.{list_any-append}
use Rattle.std.proofs.lemmas.Bool.{false_from_ne_true, both_ways}
use denote.Ref.{Bor}
use Rattle.auction_terms.specs.Lines.{bytes_of}
use Rattle.mps_reader.specs.inside.Rows.{AreAt, IsObjective}

pub same_name : (a b : List ℕ) → bytes_eq a b ≡ true → a ≡ b
same_name a b h = (bytes_eq-Decides a b).0 h

pub own_name : (a : List ℕ) → bytes_eq a a ≡ true
own_name a = (bytes_eq-Decides a a).1 refl

pub or-false : (a b : Bool) → (a || b) ≡ false → (a ≡ false) × (b ≡ false)
or-false true b h = absurd cc
or-false false b h = (refl, h)

pub or-last : (a b : Bool) → (a || (b || false)) ≡ (b || a)
or-last true true = refl
or-last _ _ = refl

pub any-names : (name : List ℕ) (ks : List (Bor (List ℕ))) → list_any (λ k. bytes_eq name k.now) ks ≡ list_any (bytes_eq name) (bytes_of ks)
any-names name [] = refl
any-names name (k ∷ ks) = ap (λ b. bytes_eq name k.now || b) (any-names name ks)

pub bytes-push : (ks : List (Bor (List ℕ))) (k : Bor (List ℕ)) → bytes_of (ks ++ k ∷ []) ≡ bytes_of ks ++ k.now ∷ []
bytes-push [] k = refl
bytes-push (x ∷ ks) k = ap (λ ns. x.now ∷ ns) (bytes-push ks k)

pub length-bytes : (ks : List (Bor (List ℕ))) → length (bytes_of ks) ≡ length ks
length-bytes ks = length-map ks (λ k. k.now)

all-bytes : (name : List ℕ) (ks : List (Bor (List ℕ))) → AllByRecursion (λ k. bytes_eq name k.now ≡ false) ks
    → AllByRecursion (λ k. bytes_eq name k ≡ false) (bytes_of ks)
all-bytes name [] h = tt
all-bytes name (k ∷ ks) h = (h.0, all-bytes name ks h.1)

pub distinct-bytes : (ks : List (Bor (List ℕ))) → IsDistinct (λ a b. bytes_eq a.now b.now) ks → IsDistinct bytes_eq (bytes_of ks)
unfolding IsDistinct
distinct-bytes [] h = tt
distinct-bytes (k ∷ ks) h = (all-bytes k.now ks h.0, distinct-bytes ks h.1)

pub others : (name : List ℕ) (ns : List (List ℕ)) → list_any (bytes_eq name) ns ≡ false → AllByRecursion (λ n. bytes_eq name n ≡ false) ns
others name [] h = tt
others name (n ∷ ns) h = let parts = or-false (bytes_eq name n) (list_any (bytes_eq name) ns) h in (parts.0, others name ns parts.1)

pub all-push : {A : Type 0} (P : A → Type 0) (xs : List A) (x : A) → AllByRecursion P xs → P x → AllByRecursion P (xs ++ x ∷ [])
all-push P [] x h p = (p, tt)
all-push P (y ∷ xs) x h p = (h.0, all-push P xs x h.1 p)

-- what is known differs from what is not
pub differs : (a b : List ℕ) (ns : List (List ℕ)) → list_any (bytes_eq a) ns ≡ true → list_any (bytes_eq b) ns ≡ false → bytes_eq a b ≡ false
differs a b ns h k = false_from_ne_true _ (λ e. both_ways _ (subst (λ n. list_any (bytes_eq n) ns ≡ false) (sym (same_name a b e)) k) h)

pub any-push : (name : List ℕ) (ns : List (List ℕ)) (n : List ℕ) → list_any (bytes_eq name) ns ≡ true → list_any (bytes_eq name) (ns ++ n ∷ []) ≡ true
any-push name ns n h = rw (list_any-append (bytes_eq name) ns (n ∷ []), h) refl

pub any-last : (name : List ℕ) (ns : List (List ℕ)) → list_any (bytes_eq name) (ns ++ name ∷ []) ≡ true
any-last name [] = rw (own_name name) refl
any-last name (n ∷ ns) = by (bytes_eq name n) (any-last name ns)
  where
    by : (b : Bool) → list_any (bytes_eq name) (ns ++ name ∷ []) ≡ true → (b || list_any (bytes_eq name) (ns ++ name ∷ [])) ≡ true
    by true h = refl
    by false h = h

-- ---- places of rows

pub at-free : (p : ℕ) (ns : List (List ℕ)) (ps : List (Option ℕ)) (rows : List (List ℕ)) (n : List ℕ) → AreAt p ns ps rows
    → AreAt p (ns ++ n ∷ []) (ps ++ None ∷ []) rows
at-free p [] [] [] n h = tt
at-free p (m ∷ ns) (None ∷ ps) rows n h = at-free p ns ps rows n h
at-free p (m ∷ ns) (Some q ∷ ps) (r ∷ rows) n h = (h.0, h.1, at-free (suc p) ns ps rows n h.2)
at-free p _ _ _ n h = absurd h

pub at-bound : (p q : ℕ) (ns : List (List ℕ)) (ps : List (Option ℕ)) (rows : List (List ℕ)) (n : List ℕ) → q ≡ p + length rows
    → AreAt p ns ps rows → AreAt p (ns ++ n ∷ []) (ps ++ Some q ∷ []) (rows ++ n ∷ [])
at-bound p q [] [] [] n e h = (omega arith, refl, tt)
at-bound p q (m ∷ ns) (None ∷ ps) rows n e h = at-bound p q ns ps rows n e h
at-bound p q (m ∷ ns) (Some k ∷ ps) (r ∷ rows) n e h = (h.0, h.1, at-bound (suc p) q ns ps rows n (omega arith) h.2)
at-bound p q _ _ _ n e h = absurd h

-- what holds of all names holds of the rows
pub all-rows : (P : List ℕ → Type 0) (p : ℕ) (ns : List (List ℕ)) (ps : List (Option ℕ)) (rows : List (List ℕ)) → AreAt p ns ps rows
    → AllByRecursion P ns → AllByRecursion P rows
all-rows P p [] [] [] h a = tt
all-rows P p (m ∷ ns) (None ∷ ps) rows h a = all-rows P p ns ps rows h a.1
all-rows P p (m ∷ ns) (Some k ∷ ps) (r ∷ rows) h a = (subst (λ n. P n) (sym h.1) a.0, all-rows P (suc p) ns ps rows h.2 a.1)
all-rows P p _ _ _ h a = absurd h

pub distinct-rows : (p : ℕ) (ns : List (List ℕ)) (ps : List (Option ℕ)) (rows : List (List ℕ)) → AreAt p ns ps rows → IsDistinct bytes_eq ns
    → IsDistinct bytes_eq rows
unfolding IsDistinct
distinct-rows p [] [] [] h a = tt
distinct-rows p (m ∷ ns) (None ∷ ps) rows h a = distinct-rows p ns ps rows h a.1
distinct-rows p (m ∷ ns) (Some k ∷ ps) (r ∷ rows) h a = (
  subst (λ (n : List ℕ). AllByRecursion (λ y. bytes_eq n y ≡ false) rows) (sym h.1)
      (all-rows (λ y. bytes_eq m y ≡ false) (suc p) ns ps rows h.2 a.0),
  distinct-rows (suc p) ns ps rows h.2 a.1,
)
distinct-rows p _ _ _ h a = absurd h

pub length-places : (p : ℕ) (ns : List (List ℕ)) (ps : List (Option ℕ)) (rows : List (List ℕ)) → AreAt p ns ps rows → length ps ≡ length ns
length-places p [] [] [] h = refl
length-places p (m ∷ ns) (None ∷ ps) rows h = ap suc (length-places p ns ps rows h)
length-places p (m ∷ ns) (Some k ∷ ps) (r ∷ rows) h = ap suc (length-places (suc p) ns ps rows h.2)
length-places p _ _ _ h = absurd h

-- a name with a place is the row there
pub placed : (p : ℕ) (ns : List (List ℕ)) (ps : List (Option ℕ)) (rows : List (List ℕ)) (i q : ℕ) → AreAt p ns ps rows
    → slice_get ps i ≡ Some (Some q) → (p ≤ q) × (q < p + length rows)
placed p [] [] [] i q h e = absurd cc
placed p (m ∷ ns) (None ∷ ps) rows zero q h e = absurd cc
placed p (m ∷ ns) (None ∷ ps) rows (suc i) q h e = placed p ns ps rows i q h e
placed p (m ∷ ns) (Some k ∷ ps) (r ∷ rows) zero q h e = let here : k ≡ q = cc in let at = h.0 in (omega arith, omega arith)
placed p (m ∷ ns) (Some k ∷ ps) (r ∷ rows) (suc i) q h e = let more = placed (suc p) ns ps rows i q h.2 e in (omega arith, omega arith)
placed p _ _ _ i q h e = absurd h

-- a row with a place isn't the objective
pub not-cost : (objective : List ℕ) (p : ℕ) (ns : List (List ℕ)) (ps : List (Option ℕ)) (rows : List (List ℕ)) (i q : ℕ) (name : List ℕ)
    → AreAt p ns ps rows → AllByRecursion (λ r. bytes_eq objective r ≡ false) rows → slice_get ns i ≡ Some name
    → slice_get ps i ≡ Some (Some q) → bytes_eq name objective ≡ false
not-cost o p [] [] [] i q name h a e f = absurd cc
not-cost o p (m ∷ ns) (None ∷ ps) rows zero q name h a e f = absurd cc
not-cost o p (m ∷ ns) (None ∷ ps) rows (suc i) q name h a e f = not-cost o p ns ps rows i q name h a e f
not-cost o p (m ∷ ns) (Some k ∷ ps) (r ∷ rows) zero q name h a e f =
    let here : m ≡ name = cc in
    false_from_ne_true _ (λ t. both_ways _ a.0 (subst (λ n. bytes_eq o n ≡ true) (sym (h.1 ∙ here))
    (subst (λ n. bytes_eq o n ≡ true) (sym (same_name name o t)) (own_name o))))
not-cost o p (m ∷ ns) (Some k ∷ ps) (r ∷ rows) (suc i) q name h a e f = not-cost o (suc p) ns ps rows i q name h.2 a.1 e f
not-cost o p _ _ _ i q name h a e f = absurd h

pub no-cost : (objective : Option (Bor (List ℕ))) (ns : List (List ℕ)) (ps : List (Option ℕ)) (rows : List (List ℕ)) (i : ℕ) (name : List ℕ) (place : Option ℕ)
    → AreAt 0 ns ps rows → IfSome objective (λ o. IsObjective ns rows o.now)
    → slice_get ns i ≡ Some name → slice_get ps i ≡ Some place → is_some place ≡ true → option_map_or (λ o. bytes_eq name o.now) objective false ≡ false
no-cost None ns ps rows i name place h o e f some = refl
no-cost (Some o) ns ps rows i name None h known e f some = absurd cc
no-cost (Some o) ns ps rows i name (Some q) h known e f some = not-cost o.now 0 ns ps rows i q name h known.apart e f

-- places of different names differ
pub apart : (p : ℕ) (ns : List (List ℕ)) (ps : List (Option ℕ)) (rows : List (List ℕ)) (i j q r : ℕ) → AreAt p ns ps rows
    → slice_get ps i ≡ Some (Some q) → slice_get ps j ≡ Some (Some r) → i < j → q < r
apart p [] [] [] i j q r h e f lt = absurd cc
apart p (m ∷ ns) (None ∷ ps) rows zero j q r h e f lt = absurd cc
apart p (m ∷ ns) (None ∷ ps) rows (suc i) zero q r h e f lt = absurd (omega arith)
apart p (m ∷ ns) (None ∷ ps) rows (suc i) (suc j) q r h e f lt = apart p ns ps rows i j q r h e f (omega arith)
apart p (m ∷ ns) (Some k ∷ ps) (x ∷ rows) i zero q r h e f lt = absurd (omega arith)
apart p (m ∷ ns) (Some k ∷ ps) (x ∷ rows) zero (suc j) q r h e f lt =
    let here : k ≡ q = cc in let at = h.0 in let more = placed (suc p) ns ps rows j r h.2 f in omega arith
apart p (m ∷ ns) (Some k ∷ ps) (x ∷ rows) (suc i) (suc j) q r h e f lt = apart (suc p) ns ps rows i j q r h.2 e f (omega arith)
apart p _ _ _ i j q r h e f lt = absurd h

pub inserted : (ks new : List (Bor (List ℕ))) (k : Bor (List ℕ)) (b : Bool)
    → new ≡ (if list_any (λ x. bytes_eq k.now x.now) ks then ks else ks ++ k ∷ []) → b ≡ not (list_any (λ x. bytes_eq k.now x.now) ks)
    → bytes_of new ≡ (if b then bytes_of ks ++ k.now ∷ [] else bytes_of ks)
inserted ks new k b e h = by (list_any (λ x. bytes_eq k.now x.now) ks) e h
  where
    by : (t : Bool) → new ≡ (if t then ks else ks ++ k ∷ []) → b ≡ not t → bytes_of new ≡ (if b then bytes_of ks ++ k.now ∷ [] else bytes_of ks)
    by true e h = rw (e, h) refl
    by false e h = rw (e, h) (bytes-push ks k)
