-- Laws of weighed quantities, of what lots are left, and of nets.
use Rattle.std.proofs.Common.{◌≡◌, ℕ, zero, suc, ◌+◌, ◌-◌, ◌*◌, ◌≤◌, true, false, List, [], ◌∷◌, Option, Some, None}
use Rattle.std.proofs.Common.{slice_index, length, map, sym, refl, ap, ◌∙◌, arith, leb-true, le-leb, ℤ, ◌≤ℤ◌, ◌<ℤ◌}
use Rattle.std.specs.Prelude.{drop, int_le, min, nat_lt, sum_by}
use Rattle.std.specs.Option.{option_map_or}
use Rattle.std.specs.List.{range_with_len, list_all}
use Rattle.std.proofs.Math.Nat.{mul-add, mul-le-mul_left}
use Rattle.std.proofs.lemmas.Int.{ints}
use Rattle.std.proofs.lemmas.Bool.{and_parts, and_from, ltb-false, or_parts}
use Rattle.std.proofs.lemmas.List.Sums.{sum_by-cons}
use Rattle.auction_terms.specs.inside.Terms.{has_values}
use Rattle.auction_terms.specs.declared.rules.Category.{Category}
use Rattle.auction_terms.specs.declared.bids.Bid.{Bid}
use Rattle.auction_terms.specs.declared.bids.Choice.{Choice}
use Rattle.auction_terms.specs.Packages.{Lots, WeightedCap, is_within, weighed, left}
use Rattle.auction_terms.specs.inside.Packages.{is_within_cap}
use Rattle.auction_terms.specs.Allocations.{Book, bid_of, quantity_of, weighed_choice, loads, IsSized}

-- ---------- signed numbers ----------

pub le_from : (a b : ℤ) → int_le a b ≡ true → a ≤ℤ b
le_from a b h = grind (arith, ints)

pub le_test : (a b : ℤ) → a ≤ℤ b → int_le a b ≡ true
le_test a b h = grind (arith, ints)

pub lt_from : (a b : ℤ) → int_le a b ≡ false → b <ℤ a
lt_from a b h = grind (arith, ints)

pub int_le_trans : (a b c : ℤ) → int_le a b ≡ true → int_le b c ≡ true → int_le a c ≡ true
int_le_trans a b c h k = let l = le_from a b h in let m = le_from b c k in le_test a c (omega (arith, ints))

-- ---------- weighed quantities ----------

pub weighed_none : (w : List ℕ) → weighed w [] ≡ 0
weighed_none [] = refl
weighed_none (x ∷ w) = refl

-- where no lot has a value, quantities are worth nothing
pub worthless : (categories : List Category) (q : List ℕ) → has_values categories ≡ false → weighed (map (λ category. category.value) categories) q ≡ 0
worthless [] q h = refl
worthless (category ∷ categories) [] h = refl
worthless (category ∷ categories) (x ∷ q) h =
    let e = or_parts (nat_lt 0 category.value) (has_values categories) h in
    let low = ltb-false 0 category.value e.0 in
    let none : category.value ≡ 0 = omega arith in
    let rest = worthless categories q e.1 in
    let product : category.value * x ≡ 0 * x = ap (λ v. v * x) none in
    omega arith

-- a smaller package loads no pool more
pub weighed_le : (w p q : List ℕ) → is_within p q ≡ true → weighed w p ≤ weighed w q
weighed_le [] p q h = omega arith
weighed_le (n ∷ w) [] q h = omega arith
weighed_le (n ∷ w) (x ∷ p) [] h =
    let e = and_parts _ _ h in
    let x0 = leb-true x 0 e.0 in
    let a : n * x ≤ n * 0 = mul-le-mul_left n x0 in
    let b = weighed_le w p [] e.1 in
    let c = weighed_none w in
    omega arith
weighed_le (n ∷ w) (x ∷ p) (y ∷ q) h =
    let e = and_parts _ _ h in
    let a : n * x ≤ n * y = mul-le-mul_left n (leb-true x y e.0) in
    let b = weighed_le w p q e.1 in
    omega arith

pub caps_smaller : (p q : List ℕ) (pools : List WeightedCap) → is_within p q ≡ true → list_all (is_within_cap q) pools ≡ true
    → list_all (is_within_cap p) pools ≡ true
caps_smaller p q [] h k = refl
caps_smaller p q (pool ∷ pools) h k =
    let e = and_parts (is_within_cap q pool) (list_all (is_within_cap q) pools) k in
    let a = weighed_le pool.weights p q h in
    let b = leb-true (weighed pool.weights q) pool.cap e.0 in
    and_from (is_within_cap p pool) (list_all (is_within_cap p) pools) (le-leb (weighed pool.weights p) pool.cap (omega arith)) (caps_smaller p q pools h e.1)

-- ---------- what is left ----------

parts_of : (k m x : ℕ) → x ≤ m → k * (m - x) + k * x ≡ k * m
parts_of k m x l = sym (mul-add k (m - x) x) ∙ ap (λ (t : ℕ). k * t) (let t : m - x + x ≡ m = omega arith in t)

pub weighed_left : (w n q : List ℕ) → is_within q n ≡ true → length q ≡ length n → weighed w (left n q) + weighed w q ≡ weighed w n
weighed_left [] n q h e = refl
weighed_left (k ∷ w) [] [] h e = refl
weighed_left (k ∷ w) [] (x ∷ q) h e = absurd (omega arith)
weighed_left (k ∷ w) (m ∷ n) [] h e = absurd (omega arith)
weighed_left (k ∷ w) (m ∷ n) (x ∷ q) h e =
    let f = and_parts _ _ h in
    let l = leb-true x m f.0 in
    let r = weighed_left w n q f.1 (omega arith) in
    let d : k * (m - x) + k * x ≡ k * m = parts_of k m x l in
    omega arith

-- ---------- the packages of several bids together ----------

module _ (f g h : ℕ → ℕ) (each : (i : ℕ) → f i ≡ g i + h i) where
  weighed_sum : (w : List ℕ) (a n : ℕ) → weighed w (map f (range_with_len a n))
      ≡ weighed w (map g (range_with_len a n)) + weighed w (map h (range_with_len a n))
  weighed_sum [] a n = refl
  weighed_sum (k ∷ w) a zero = refl
  weighed_sum (k ∷ w) a (suc n) =
      let e : k * f a ≡ k * g a + k * h a = ap (λ (x : ℕ). k * x) (each a) ∙ mul-add k (g a) (h a) in
      let r = weighed_sum w (a + 1) n in
      omega arith

weighed_zero : (w : List ℕ) (a n : ℕ) → weighed w (map (λ (i : ℕ). 0) (range_with_len a n)) ≡ 0
weighed_zero [] a n = refl
weighed_zero (k ∷ w) a zero = refl
weighed_zero (k ∷ w) a (suc n) = let r = weighed_zero w (a + 1) n in omega arith

weighed_indexed : (w q : List ℕ) (f : ℕ → ℕ) (a n : ℕ) → length q ≡ n → ((i m : ℕ) → m ≡ a + i → f m ≡ slice_index q i)
    → weighed w (map f (range_with_len a n)) ≡ weighed w q
weighed_indexed [] q f a n e h = refl
weighed_indexed (k ∷ w) [] f a zero e h = refl
weighed_indexed (k ∷ w) [] f a (suc n) e h = absurd (omega arith)
weighed_indexed (k ∷ w) (x ∷ q) f a zero e h = absurd (omega arith)
weighed_indexed (k ∷ w) (x ∷ q) f a (suc n) e h =
    let first : k * f a ≡ k * x = ap (λ (m : ℕ). k * m) (h 0 a (omega arith)) in
    let r = weighed_indexed w q f (a + 1) n (omega arith) (λ i m t. h (suc i) m (omega arith)) in
    omega arith

module _ (lots : Lots) (book : Book) (sized : IsSized lots book) where
  one_weighed : (w : List ℕ) (o : Option Bid) → ((x : Bid) → o ≡ Some x → length x.package ≡ length lots.supply)
      → weighed w (map (λ category. option_map_or (λ (x : Bid). slice_index x.package category) o 0)
      (range_with_len 0 (length lots.supply))) ≡ option_map_or (λ (x : Bid). weighed w x.package) o 0
  one_weighed w None s = weighed_zero w 0 (length lots.supply)
  one_weighed w (Some x) s = weighed_indexed w x.package (λ category. slice_index x.package category) 0 (length lots.supply) (s x refl)
      (λ i m t. ap (λ (k : ℕ). slice_index x.package k) (let u : m ≡ i = omega arith in u))

  -- the weighed sum of packages is the sum of the weighed packages
  pub weighed_loads : (w : List ℕ) (a : List Choice) → weighed w (loads lots book a) ≡ sum_by (weighed_choice w book) a
  weighed_loads w [] = weighed_zero w 0 (length lots.supply)
  weighed_loads w (c ∷ a) =
      weighed_sum (λ category. sum_by (quantity_of book category) (c ∷ a)) (λ category. quantity_of book category c)
      (λ category. sum_by (quantity_of book category) a) (λ category. sum_by-cons (quantity_of book category) c a) w 0
      (length lots.supply)
      ∙ ap (λ (n : ℕ). n + weighed w (loads lots book a)) (one_weighed w (bid_of book c) (λ x e. sized c.bidder c.bid x e))
      ∙ ap (λ (n : ℕ). weighed_choice w book c + n) (weighed_loads w a)
      ∙ sym (sum_by-cons (weighed_choice w book) c a)

-- after the end of the weights or of the quantities nothing is weighed
pub weighed_end : (w q : List ℕ) (n : ℕ) → min (length q) (length w) ≤ n → weighed (drop n w) (drop n q) ≡ 0
weighed_end [] q zero l = refl
weighed_end [] q (suc n) l = refl
weighed_end (k ∷ w) [] zero l = refl
weighed_end (k ∷ w) [] (suc n) l = weighed_none (drop n w)
weighed_end (k ∷ w) (x ∷ q) zero l = absurd (omega arith)
weighed_end (k ∷ w) (x ∷ q) (suc n) l = weighed_end w q n (omega arith)
