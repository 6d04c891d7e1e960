-- Laws of the order of packages: domination leads to a kept bid.
use Rattle.std.specs.Prelude.{int_le}
use Rattle.std.proofs.Common.{◌≡◌, ℕ, zero, suc, ◌<◌, ◌≤◌, Bool, true, false, List, [], ◌∷◌, Some, slice_get, slice_index}
use Rattle.std.proofs.Common.{refl, arith, leb-true, leb-false, le-leb, lt-ltb, not, nat_lt, ◌&&◌, ◌||◌, ap₂, ⊎_elim}
use Rattle.std.proofs.Common.{le_refl, inl, inr, pos}
use Rattle.std.specs.List.{list_any, list_all}
use Rattle.std.proofs.lemmas.Bool.{and_parts, and_right, and_from, and_cases, or_cases, cases_Bool, not-true, not_from_false, both_ways}
use Rattle.auction_terms.specs.declared.bids.Bid.{Bid}
use Rattle.std.proofs.lemmas.Int.{ints}
use Rattle.auction_terms.specs.Packages.{Lots, fits, size, is_within}
use Rattle.auction_terms.specs.inside.Packages.{is_within_cap}
use Rattle.auction_terms.specs.Domination.{SmallerSizesSuffice, net, dominates}
use Rattle.auction_terms.specs.Allocations.{bid_at}
use Rattle.auction_terms.specs.Keeping.{KeptInstead, KeepsTheBest}
use Rattle.auction_terms.proofs.WeighedFacts.{caps_smaller, int_le_trans, le_test, lt_from}

pub within_refl : (p : List ℕ) → is_within p p ≡ true
within_refl [] = refl
within_refl (x ∷ p) = and_from _ _ (le-leb x x (le_refl x)) (within_refl p)

pub within_trans : (p q r : List ℕ) → is_within p q ≡ true → is_within q r ≡ true → is_within p r ≡ true
within_trans [] q r h k = refl
within_trans (x ∷ p) [] [] h k = h
within_trans (x ∷ p) [] (z ∷ r) h k =
    let e = and_parts _ _ h in
    let a = leb-true x 0 e.0 in
    and_from _ _ (le-leb x z (omega arith)) (within_trans p [] r e.1 refl)
within_trans (x ∷ p) (y ∷ q) [] h k =
    let e = and_parts _ _ h in let f = and_parts _ _ k in
    let a = leb-true x y e.0 in let b = leb-true y 0 f.0 in
    and_from _ _ (le-leb x 0 (omega arith)) (within_trans p q [] e.1 f.1)
within_trans (x ∷ p) (y ∷ q) (z ∷ r) h k =
    let e = and_parts _ _ h in let f = and_parts _ _ k in
    let a = leb-true x y e.0 in let b = leb-true y z f.0 in
    and_from _ _ (le-leb x z (omega arith)) (within_trans p q r e.1 f.1)

-- in each category
pub within_at : (p q : List ℕ) (c : ℕ) → is_within p q ≡ true → slice_index p c ≤ slice_index q c
within_at [] q c h = omega arith
within_at (x ∷ p) [] zero h = leb-true x 0 (and_parts _ _ h).0
within_at (x ∷ p) [] (suc c) h = within_at p [] c (and_parts _ _ h).1
within_at (x ∷ p) (y ∷ q) zero h = leb-true x y (and_parts _ _ h).0
within_at (x ∷ p) (y ∷ q) (suc c) h = within_at p q c (and_parts _ _ h).1

-- a smaller package has a smaller size
pub size_le : (p q : List ℕ) → is_within p q ≡ true → size p ≤ size q
size_le [] q h = omega arith
size_le (x ∷ p) [] h = let e = and_parts _ _ h in let a = leb-true x 0 e.0 in let b = size_le p [] e.1 in omega arith
size_le (x ∷ p) (y ∷ q) h = let e = and_parts _ _ h in let a = leb-true x y e.0 in let b = size_le p q e.1 in omega arith

pub size_lt : (p q : List ℕ) → is_within p q ≡ true → is_within q p ≡ false → size p < size q
size_lt [] [] h k = absurd (both_ways true k refl)
size_lt [] (y ∷ q) h k = ⊎_elim
    (λ l. let a = leb-false y 0 l in omega arith)
    (λ r. let b = size_lt [] q refl r in omega arith)
    (and_cases _ _ k)
size_lt (x ∷ p) [] h k = absurd (both_ways true k refl)
size_lt (x ∷ p) (y ∷ q) h k =
    let e = and_parts _ _ h in let a = leb-true x y e.0 in let b = size_le p q e.1 in
    ⊎_elim
    (λ l. let c = leb-false y x l in omega arith)
    (λ r. let c = size_lt p q e.1 r in omega arith)
    (and_cases _ _ k)

-- an element that passes the test, and where it stands
found : {X : Type 0} (p : X → Bool) (xs : List X) → list_any p xs ≡ true → (k : ℕ) × (y : X) × (slice_get xs k ≡ Some y) × (p y ≡ true)
found p [] h = absurd (both_ways false refl h)
found p (x ∷ xs) h = ⊎_elim
    (λ l. (0, x, refl, l))
    (λ r. let w = found p xs r in (suc w.0, w.1, w.2, w.3))
    (or_cases _ _ h)

-- quantities at most those that fit do fit
pub fits_smaller : (lots : Lots) (p q : List ℕ) → is_within p q ≡ true → fits lots q ≡ true → fits lots p ≡ true
fits_smaller lots p q h k =
    let e = and_parts (is_within q lots.supply) (list_all (is_within_cap q) lots.pools) k in
    and_from (is_within p lots.supply) (list_all (is_within_cap p) lots.pools) (within_trans p q lots.supply h e.0) (caps_smaller p q lots.pools h e.1)

-- by falling size of the package
keeper : (lots : Lots) (form : List Bid) (n : ℕ) (j : ℕ) (x : Bid) → size x.package < n → bid_at form j ≡ Some x
    → fits lots x.package ≡ true → int_le (pos 0) (net lots x) ≡ true → KeptInstead lots form x
keeper lots form zero j x less at fit worth = absurd (omega arith)
keeper lots form (suc n) j x less at fit worth = ⊎_elim
    (λ some.
    let w = found (λ y. dominates lots y x) form some in
    let d = and_parts _ _ w.3 in
    let s = and_parts _ _ d.0 in
    let shrinks = size_lt w.1.package x.package s.0 (not-true _ s.1) in
    let k = keeper lots form n (suc w.0) w.1 (omega arith) w.2 (fits_smaller lots w.1.package x.package s.0 fit)
    (int_le_trans (pos 0) (net lots x) (net lots w.1) worth d.1) in
    record {
      number = k.number;
      bid = k.bid;
      stands = k.stands;
      kept = k.kept;
      smaller = within_trans k.bid.package w.1.package x.package k.smaller s.0;
      no_cheaper = int_le_trans (net lots x) (net lots w.1) (net lots k.bid) d.1 k.no_cheaper;
    })
    (λ none. record {
      number = j;
      bid = x;
      stands = at;
      kept = and_from _ _ (and_from _ _ fit worth) (not_from_false _ none);
      smaller = within_refl x.package;
      no_cheaper = le_test (net lots x) (net lots x) (omega (arith, ints));
    })
    (cases_Bool (list_any (λ y. dominates lots y x) form))

pub keeps_the_best : KeepsTheBest
keeps_the_best lots form j x at fit = ⊎_elim
    (λ worth. inr (keeper lots form (suc (size x.package)) j x (omega arith) at fit worth))
    (λ less. inl (lt_from (pos 0) (net lots x) less))
    (cases_Bool (int_le (pos 0) (net lots x)))

smaller_size : (lots : Lots) (x y : Bid) (b : Bool) → dominates lots y x ≡ b → (nat_lt (size y.package) (size x.package) && dominates lots y x) ≡ b
smaller_size lots x y true d =
    let e = and_parts (is_within y.package x.package && not (is_within x.package y.package)) (int_le (net lots x) (net lots y)) d in
    let s = and_parts (is_within y.package x.package) (not (is_within x.package y.package)) e.0 in
    and_from _ _ (lt-ltb (size y.package) (size x.package) (size_lt y.package x.package s.0 (not-true (is_within x.package y.package) s.1))) d
smaller_size lots x y false d = and_right (nat_lt (size y.package) (size x.package)) (dominates lots y x) d

pub smaller_sizes_suffice : SmallerSizesSuffice
smaller_sizes_suffice lots [] x = refl
smaller_sizes_suffice lots (y ∷ form) x = ap₂ (λ (a b : Bool). a || b) (smaller_size lots x y (dominates lots y x) refl) (smaller_sizes_suffice lots form x)
