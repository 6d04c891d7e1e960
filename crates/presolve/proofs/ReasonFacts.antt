-- There is no reason just where a bid is kept.
use Rattle.std.proofs.Common.{◌≡◌, ◌∙◌, ◌+◌, ◌&&◌, ◌||◌, ◌∷◌, ℕ, suc, Bool, true, false, not, cond, List, [], Option, None, Some, refl, ap, ap₂, arith, length}
use Rattle.std.specs.Prelude.{if◌then◌else◌, int_le, nat_le, nat_lt, option_map, pos, slice_index}
use Rattle.std.specs.List.{find, list_all, list_any, position_from, range_with_len}
use Rattle.std.specs.Option.{is_none, option_or}
use Rattle.std.proofs.lemmas.Bool.Decides.{nat_tests}
use Rattle.auction_terms.specs.declared.bids.Bid.{Bid}
use Rattle.auction_terms.specs.Packages.{Lots, WeightedCap, is_within, weighed}
use Rattle.auction_terms.specs.Domination.{dominates, net}
use Rattle.presolve.specs.Reasons.{KeptWithoutReason, below_worth, dominated, over_cap, over_supply}
use Rattle.presolve.specs.declared.reason.Reason.{Reason}

none-mapped : {X Y : Type 0} (f : X → Y) (o : Option X) → is_none (option_map f o) ≡ is_none o
none-mapped f None = refl
none-mapped f (Some x) = refl

none-or : {X : Type 0} (o p : Option X) → is_none (option_or o p) ≡ (is_none o && is_none p)
none-or None p = refl
none-or (Some x) p = refl

-- a first item where the test passes, or the search goes on
none-if : {X : Type 0} (b : Bool) (x : X) (rest : Option X) → is_none (cond b (Some x) rest) ≡ (not b && is_none rest)
none-if true x rest = refl
none-if false x rest = refl

not-above : (x n : ℕ) → not (nat_lt n x) ≡ nat_le x n
not-above x n = grind (arith, nat_tests)

-- what is asked for and what is there, by place, from a place on
none-above : (p q : List ℕ) (k : ℕ) (asked there : ℕ → ℕ) → ((i : ℕ) → asked (k + i) ≡ slice_index p i) → ((i : ℕ) → there (k + i) ≡ slice_index q i)
    → is_none (find (λ place. nat_lt (there place) (asked place)) (range_with_len k (length p))) ≡ is_within p q
none-above [] q k asked there p_is q_is = refl
none-above (x ∷ p) [] k asked there p_is q_is =
    let start : k ≡ k + 0 = omega arith in
    let next : (i : ℕ) → k + 1 + i ≡ k + suc i = λ i. omega arith in
    none-if (nat_lt (there k) (asked k)) k _ ∙ ap₂ (λ (b c : Bool). b && c)
    (ap₂ (λ (m y : ℕ). not (nat_lt m y)) (ap there start ∙ q_is 0) (ap asked start ∙ p_is 0) ∙ not-above x 0)
    (none-above p [] (k + 1) asked there (λ i. ap asked (next i) ∙ p_is (suc i)) (λ i. ap there (next i) ∙ q_is (suc i)))
none-above (x ∷ p) (n ∷ q) k asked there p_is q_is =
    let start : k ≡ k + 0 = omega arith in
    let next : (i : ℕ) → k + 1 + i ≡ k + suc i = λ i. omega arith in
    none-if (nat_lt (there k) (asked k)) k _ ∙ ap₂ (λ (b c : Bool). b && c)
    (ap₂ (λ (m y : ℕ). not (nat_lt m y)) (ap there start ∙ q_is 0) (ap asked start ∙ p_is 0) ∙ not-above x n)
    (none-above p q (k + 1) asked there (λ i. ap asked (next i) ∙ p_is (suc i)) (λ i. ap there (next i) ∙ q_is (suc i)))

supply-none : (lots : Lots) (quantities : List ℕ) → is_none (over_supply lots quantities) ≡ is_within quantities lots.supply
supply-none lots quantities =
    let start : (i : ℕ) → 0 + i ≡ i = λ i. omega arith in
    none-mapped _ _ ∙ none-above quantities lots.supply 0 (slice_index quantities) (slice_index lots.supply)
    (λ i. ap (slice_index quantities) (start i)) (λ i. ap (slice_index lots.supply) (start i))

none-over : (quantities : List ℕ) (n : ℕ) (pools : List WeightedCap)
    → is_none (position_from (λ (pool : WeightedCap). nat_lt pool.cap (weighed pool.weights quantities)) n pools)
    ≡ list_all (λ (pool : WeightedCap). nat_le (weighed pool.weights quantities) pool.cap) pools
none-over quantities n [] = refl
none-over quantities n (pool ∷ pools) =
    none-if (nat_lt pool.cap (weighed pool.weights quantities)) n _
    ∙ ap₂ (λ (b c : Bool). b && c) (not-above (weighed pool.weights quantities) pool.cap) (none-over quantities (n + 1) pools)

cap-none : (lots : Lots) (quantities : List ℕ)
    → is_none (over_cap lots quantities) ≡ list_all (λ (pool : WeightedCap). nat_le (weighed pool.weights quantities) pool.cap) lots.pools
cap-none lots quantities = none-mapped _ _ ∙ none-over quantities 0 lots.pools

worth-none : (lots : Lots) (x : Bid) → is_none (below_worth lots x) ≡ int_le (pos 0) (net lots x)
worth-none lots x = go (int_le (pos 0) (net lots x)) _
  where
    go : (b : Bool) (r : Reason) → is_none (if b then None else Some r) ≡ b
    go true r = refl
    go false r = refl

not-either : (b c : Bool) → (not b && not c) ≡ not (b || c)
not-either true c = refl
not-either false c = refl

none-found : {X : Type 0} (test : X → Bool) (n : ℕ) (xs : List X) → is_none (position_from test n xs) ≡ not (list_any test xs)
none-found test n [] = refl
none-found test n (x ∷ xs) = none-if (test x) n _ ∙ ap (λ (c : Bool). not (test x) && c) (none-found test (n + 1) xs) ∙ not-either (test x) (list_any test xs)

dominated-none : (lots : Lots) (form : List Bid) (x : Bid) → is_none (dominated lots form x) ≡ not (list_any (λ y. dominates lots y x) form)
dominated-none lots form x = none-mapped _ _ ∙ none-found (λ y. dominates lots y x) 1 form

regroup : (a b c d : Bool) → (a && (b && (c && d))) ≡ (((a && b) && c) && d)
regroup true true c d = refl
regroup true false c d = refl
regroup false b c d = refl

pub kept-without : KeptWithoutReason
kept-without lots form x =
    let supply = over_supply lots x.package in
    let cap = over_cap lots x.package in
    let worth = below_worth lots x in
    let other = dominated lots form x in
    none-or supply (option_or cap (option_or worth other))
    ∙ ap₂ (λ (b c : Bool). b && c) (supply-none lots x.package)
    (none-or cap (option_or worth other) ∙ ap₂ (λ (b c : Bool). b && c) (cap-none lots x.package)
    (none-or worth other ∙ ap₂ (λ (b c : Bool). b && c) (worth-none lots x) (dominated-none lots form x)))
    ∙ regroup (is_within x.package lots.supply) (list_all (λ (pool : WeightedCap). nat_le (weighed pool.weights x.package) pool.cap)
    lots.pools) (int_le (pos 0) (net lots x)) (not (list_any (λ y. dominates lots y x) form))
