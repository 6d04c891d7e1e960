-- What weights show of prices in parts of a pound.
use Rattle.std.proofs.Common.{◌≡◌, ℕ, zero, suc, ◌+◌, ◌*◌, ◌≤◌, Bool, true, cond, List, [], ◌∷◌, refl, sym, ap, ◌∙◌, subst, arith, ⊎_elim, eqb-true, leb-true}
use Rattle.std.proofs.Common.{false, None, Option, ℤ, pos, negsuc, ◌+ℤ◌, ◌≤ℤ◌}
use Rattle.std.specs.Prelude.{All, int_le, nat_le, neg_ℤ, sum_by, ◌*ℤ◌, ◌==◌, ◌&&◌, ◌||◌}
use Rattle.std.specs.List.{AllByRecursion, list_all}
use Rattle.std.proofs.lemmas.Bool.{and_parts, cases_lt, or_cases}
use Rattle.std.proofs.lemmas.Int.{ints}
use Rattle.std.proofs.lemmas.List.Sums.{sum_by-cons}
use Rattle.std.proofs.lemmas.List.Elements.{recursion_from_All, All-from_recursion}
use Rattle.std.proofs.Math.IntN.{zero-*ℤ}
use Rattle.std.proofs.Math.Nat.{mul-le-mul_left, le_of_mul-le-mul_left}
use Rattle.auction_terms.specs.declared.bids.Choice.{Choice}
use Rattle.auction_terms.specs.FirstFault.{first_failed}
use Rattle.auction_terms.specs.Groups.{has}
use Rattle.auction_terms.specs.Packages.{Lots}
use Rattle.auction_terms.specs.Allocations.{Book, weighed_choice}
use Rattle.auction_terms.proofs.OfferFacts.{all_agree, sum_agree, sum_filter, sum_plus, sum_zero}
use Rattle.outcome.specs.Pricing.{paid}
use Rattle.outcome.specs.Report.{cost}
use Rattle.program_rows.specs.Faithful.{IsGreatest}
use Rattle.program_rows.proofs.EachFacts.{each}
use Rattle.optimality.proofs.ProductFacts.{times-natural, times-sum}
use Rattle.optimality.specs.Certificates.{sum_of}
use Rattle.prices.specs.declared.rule.RuleFault.{RuleFault}
use Rattle.prices.specs.declared.rule.RuleFault.TheVariants.{NotLeast, NotNearest}
use Rattle.prices.specs.Parts.{AreSame, IsAsNear, IsNoLower, Suffice, ThePricesAreOne, distance_from_alone, in_smaller}
use Rattle.prices.specs.Prices.{paid_by_group}
use Rattle.prices.specs.Rule.{ShownAreThePrices, are_tight, is_moved, is_tight, is_tight_alone, shows_least, shows_nearest}
use Rattle.prices.specs.Weights.{Weighted, Weights, weight_on, weights_on}
use Rattle.prices.proofs.SquareFacts.{nearer, same_where_none_apart}
use Rattle.prices.proofs.WeightFacts.{mul_comm, nothing, one_winner, pays, own_pay, spread, times_sum}

-- ---------- products ----------

swap_naturals : (k m n : ℕ) → k * (m * n) ≡ m * (k * n)
swap_naturals k m n = omega arith

neg_out : (k n : ℕ) → pos k *ℤ neg_ℤ (pos n) ≡ neg_ℤ (pos (k * n))
neg_out k zero = let none : k * 0 ≡ 0 = omega arith in rw none refl
neg_out k (suc n) = refl

swap : (k m : ℕ) (z : ℤ) → pos k *ℤ (pos m *ℤ z) ≡ pos m *ℤ (pos k *ℤ z)
swap k m (pos n) = ap pos (swap_naturals k m n)
swap k m (negsuc n) = neg_out k (m * suc n) ∙ ap (λ (x : ℕ). neg_ℤ (pos x)) (swap_naturals k m (suc n)) ∙ sym (neg_out m (k * suc n))

-- what is at least and at most multiples of one number
crossed : (k l m n : ℕ) (z : ℤ) → pos m ≤ℤ (pos k *ℤ z) → (pos l *ℤ z) ≤ℤ pos n → l * m ≤ k * n
crossed k l m n z low high =
    let a : (pos l *ℤ pos m) ≤ℤ (pos l *ℤ (pos k *ℤ z)) = times-natural l (pos m) (pos k *ℤ z) low in
    let b : (pos k *ℤ (pos l *ℤ z)) ≤ℤ (pos k *ℤ pos n) = times-natural k (pos l *ℤ z) (pos n) high in
    let s = swap l k z in
    let t : (pos l *ℤ pos m) ≤ℤ (pos k *ℤ (pos l *ℤ z)) = subst (λ (x : ℤ). (pos l *ℤ pos m) ≤ℤ x) s a in
    omega (arith, ints)

-- the weights on a winner
abbrev on : List Weighted → (ℕ → ℕ) → Choice → ℕ
on weights own c = weight_on weights c.bidder + own c.bidder

-- the groups' opportunity costs, each times its weight
abbrev pub weighted_costs : Lots → Book → List Choice → List Weighted → ℤ
weighted_costs lots book first weights = sum_of (λ w. pos w.weight *ℤ cost lots book first w.group w.without) weights

-- the reserves of the winners' lots, each times the winner's own weight
abbrev pub weighted_reserves : List ℕ → Book → List Choice → (ℕ → ℕ) → ℕ
weighted_reserves reserves book first own = sum_by (λ c. own c.bidder * weighed_choice reserves book c) first

-- there are weights only where nothing more is paid than has to be
abbrev both_tight : List ℕ → Lots → Book → List Choice → ℕ → (ℕ → ℕ) → List Weighted → (ℕ → ℕ) → Bool
both_tight reserves lots book first parts price weights own =
    list_all (is_tight lots book first parts price) weights && list_all (is_tight_alone reserves book parts price own) first

-- what the winners pay, each times the weights on it
abbrev pub weighted_paid : List Weighted → (ℕ → ℕ) → (ℕ → ℕ) → List Choice → ℕ
weighted_paid weights own price first = sum_by (λ c. on weights own c * price c.bidder) first

-- the groups' opportunity costs and the winners' reserves, each times its weight, in parts of a pound
abbrev pub weighted_parts : List ℕ → Lots → Book → List Choice → ℕ → List Weighted → (ℕ → ℕ) → ℤ
weighted_parts reserves lots book first parts weights own =
    pos parts *ℤ (weighted_costs lots book first weights +ℤ pos (weighted_reserves reserves book first own))

by_both : (a b z all : ℤ) (m n s : ℕ) → b ≡ a → b ≤ℤ pos m → z ≤ℤ pos n → all ≡ a +ℤ z → s ≡ m + n → all ≤ℤ pos s
by_both a b z all m n s e f g h k = omega (arith, ints)

at_most : (a b : ℤ) → int_le a b ≡ true → a ≤ℤ b
at_most a b h = omega (arith, ints)

-- ---------- weighted sums ----------

module _ (price : ℕ → ℕ) (ws : List Weighted) (own : ℕ → ℕ) where
  -- by groups and by winners
  pub paid_both_ways : (first : List Choice) → sum_by (λ w. w.weight * pays price ws first w) ws + own_pay price ws own first ≡ weighted_paid ws own price first
  paid_both_ways [] = let z = sum_zero (λ w. w.weight * pays price ws [] w) ws (λ w. nothing w.weight) in omega arith
  paid_both_ways (c ∷ first) =
      let o : ℕ = price c.bidder in
      let s = sum_plus (λ w. w.weight * pays price ws (c ∷ first) w) (λ w. w.weight * cond (has w.group c.bidder) o 0)
      (λ w. w.weight * pays price ws first w)
      ws (λ w. ap (λ (n : ℕ). w.weight * n) (sum_by-cons (λ (x : Choice). cond (has w.group x.bidder) (price x.bidder) 0) c first) ∙
      spread w.weight (cond (has w.group c.bidder) o 0) (pays price ws first w)) in
      let v : own_pay price ws own (c ∷ first) ≡ own c.bidder * o + own_pay price ws own first =
      sum_by-cons (λ (x : Choice). own x.bidder * price x.bidder) c first in
      let t : weighted_paid ws own price (c ∷ first) ≡ on ws own c * o + weighted_paid ws own price first =
      sum_by-cons (λ (x : Choice). on ws own x * price x.bidder) c first in
      let here = one_winner price ws c in
      let split : on ws own c * o ≡ o * weight_on ws c.bidder + own c.bidder * o = omega arith in
      let later = paid_both_ways first in
      omega arith

  pub costs_in_parts : (lots : Lots) (book : Book) (first : List Choice) (parts : ℕ)
      → ((group : List ℕ) (without : List Choice) → IsGreatest lots book (has group) without
      → (pos parts *ℤ cost lots book first group without) ≤ℤ pos (paid_by_group price group first))
      → (xs : List Weighted) → AllByRecursion (λ w. IsGreatest lots book (has w.group) w.without) xs
      → (pos parts *ℤ weighted_costs lots book first xs) ≤ℤ pos (sum_by (λ w. w.weight * pays price ws first w) xs)
  costs_in_parts lots book first parts covers [] h = omega (arith, ints)
  costs_in_parts lots book first parts covers (w ∷ xs) h =
      let c : ℤ = cost lots book first w.group w.without in
      let s : sum_by (λ w. w.weight * pays price ws first w) (w ∷ xs) ≡ w.weight * pays price ws first w + sum_by (λ w. w.weight * pays price ws first w) xs =
      sum_by-cons (λ (x : Weighted). x.weight * pays price ws first x) w xs in
      let e : paid_by_group price w.group first ≡ pays price ws first w = sum_filter (λ c. price c.bidder) (λ c. has w.group c.bidder) first in
      let covered : (pos parts *ℤ c) ≤ℤ pos (pays price ws first w) =
      subst (λ (n : ℕ). (pos parts *ℤ c) ≤ℤ pos n) e (covers w.group w.without h.0) in
      let here : (pos w.weight *ℤ (pos parts *ℤ c)) ≤ℤ (pos w.weight *ℤ pos (pays price ws first w)) =
      times-natural w.weight (pos parts *ℤ c) (pos (pays price ws first w)) covered in
      let turned = swap w.weight parts c in
      let split = times-sum (pos parts) (pos w.weight *ℤ c) (weighted_costs lots book first xs) in
      let later = costs_in_parts lots book first parts covers xs h.1 in
      by_both (pos parts *ℤ (pos w.weight *ℤ c)) (pos w.weight *ℤ (pos parts *ℤ c)) (pos parts *ℤ weighted_costs lots book first xs) _
      (w.weight * pays price ws first w) (sum_by (λ w. w.weight * pays price ws first w) xs) _ turned here later split s

  pub reserves_in_parts : (reserves : List ℕ) (book : Book) (parts : ℕ) (first : List Choice)
      → AllByRecursion (λ c. parts * weighed_choice reserves book c ≤ price c.bidder) first
      → parts * weighted_reserves reserves book first own ≤ own_pay price ws own first
  reserves_in_parts reserves book parts [] h = omega arith
  reserves_in_parts reserves book parts (c ∷ first) h =
      let r : ℕ = weighed_choice reserves book c in
      let s : weighted_reserves reserves book (c ∷ first) own ≡ own c.bidder * r + weighted_reserves reserves book first own =
      sum_by-cons (λ (x : Choice). own x.bidder * weighed_choice reserves book x) c first in
      let u : parts * weighted_reserves reserves book (c ∷ first) own ≡ parts * (own c.bidder * r) + parts * weighted_reserves reserves book first own =
      ap (λ (n : ℕ). parts * n) s ∙ spread parts (own c.bidder * r) (weighted_reserves reserves book first own) in
      let t = sum_by-cons (λ (x : Choice). own x.bidder * price x.bidder) c first in
      let low : own c.bidder * (parts * r) ≤ own c.bidder * price c.bidder = mul-le-mul_left (own c.bidder) h.0 in
      let turned = swap_naturals parts (own c.bidder) r in
      let later = reserves_in_parts reserves book parts first h.1 in
      omega arith

parts_of_both : (parts r m n : ℕ) (costs : ℤ) → (pos parts *ℤ costs) ≤ℤ pos m → parts * r ≤ n → (pos parts *ℤ (costs +ℤ pos r)) ≤ℤ pos (m + n)
parts_of_both parts r m n costs low small =
    let split = times-sum (pos parts) costs (pos r) in
    let turned : (pos parts *ℤ pos r) ≡ pos (parts * r) = omega (arith, ints) in
    omega (arith, ints)

-- prices that suffice pay for the weights
pub paid_for : (reserves : List ℕ) (lots : Lots) (book : Book) (first : List Choice) (parts : ℕ) (price : ℕ → ℕ) (weights : List Weighted) (own : ℕ → ℕ)
    → Suffice reserves lots book first parts price → All (λ w. IsGreatest lots book (has w.group) w.without) weights
    → weighted_parts reserves lots book first parts weights own ≤ℤ pos (weighted_paid weights own price first)
paid_for reserves lots book first parts price weights own suffice greatest =
    let costs = costs_in_parts price weights own lots book first parts suffice.covers weights (recursion_from_All _ weights greatest) in
    let met = reserves_in_parts price weights own reserves book parts first (recursion_from_All _ first suffice.meet) in
    subst (λ (n : ℕ). weighted_parts reserves lots book first parts weights own ≤ℤ pos n) (paid_both_ways price weights own first)
    (parts_of_both parts (weighted_reserves reserves book first own) _ _ (weighted_costs lots book first weights) costs met)

-- ---------- tight ones ----------

by_both_up : (a b z all : ℤ) (m n s : ℕ) → b ≡ a → pos m ≤ℤ b → pos n ≤ℤ z → all ≡ a +ℤ z → s ≡ m + n → pos s ≤ℤ all
by_both_up a b z all m n s e f g h k = omega (arith, ints)

-- what has a weight is at most, times its weight
no_weight : (w n : ℕ) → w ≡ 0 → w * n ≡ 0
no_weight w n e = ap (λ (k : ℕ). k * n) e ∙ (let none : 0 * n ≡ 0 = omega arith in none)

no_weight_z : (w : ℕ) (z : ℤ) → w ≡ 0 → pos w *ℤ z ≡ pos 0
no_weight_z w z e = ap (λ (k : ℕ). pos k *ℤ z) e ∙ zero-*ℤ z

tight_product : (w n : ℕ) (z : ℤ) → (w == 0 || int_le (pos n) z) ≡ true → pos (w * n) ≤ℤ (pos w *ℤ z)
tight_product w n z h = ⊎_elim
    (λ e.
    let none = eqb-true w 0 e in
    let left = no_weight w n none in
    let right = no_weight_z w z none in
    omega (arith, ints))
    (λ e. times-natural w (pos n) z (at_most (pos n) z e))
    (or_cases (w == 0) (int_le (pos n) z) h)

tight_natural : (w n m : ℕ) → (w == 0 || nat_le n m) ≡ true → w * n ≤ w * m
tight_natural w n m h = ⊎_elim
    (λ e.
    let none = eqb-true w 0 e in
    let left = no_weight w n none in
    let right = no_weight w m none in
    omega arith)
    (λ e. mul-le-mul_left w (leb-true n m e))
    (or_cases (w == 0) (nat_le n m) h)

module _ (price : ℕ → ℕ) (ws : List Weighted) (own : ℕ → ℕ) where
  costs_tight : (lots : Lots) (book : Book) (first : List Choice) (parts : ℕ) (xs : List Weighted)
      → list_all (is_tight lots book first parts price) xs ≡ true
      → pos (sum_by (λ w. w.weight * pays price ws first w) xs) ≤ℤ (pos parts *ℤ weighted_costs lots book first xs)
  costs_tight lots book first parts [] h = omega (arith, ints)
  costs_tight lots book first parts (w ∷ xs) h =
      let c : ℤ = cost lots book first w.group w.without in
      let both = and_parts (is_tight lots book first parts price w) (list_all (is_tight lots book first parts price) xs) h in
      let s : sum_by (λ w. w.weight * pays price ws first w) (w ∷ xs) ≡ w.weight * pays price ws first w + sum_by (λ w. w.weight * pays price ws first w) xs =
      sum_by-cons (λ (x : Weighted). x.weight * pays price ws first x) w xs in
      let e : paid_by_group price w.group first ≡ pays price ws first w = sum_filter (λ c. price c.bidder) (λ c. has w.group c.bidder) first in
      let tight = tight_product w.weight (paid_by_group price w.group first) (pos parts *ℤ c) both.0 in
      let here : pos (w.weight * pays price ws first w) ≤ℤ (pos w.weight *ℤ (pos parts *ℤ c)) =
      subst (λ (n : ℕ). pos (w.weight * n) ≤ℤ (pos w.weight *ℤ (pos parts *ℤ c))) e tight in
      let turned = swap w.weight parts c in
      let split = times-sum (pos parts) (pos w.weight *ℤ c) (weighted_costs lots book first xs) in
      let later = costs_tight lots book first parts xs both.1 in
      by_both_up (pos parts *ℤ (pos w.weight *ℤ c)) (pos w.weight *ℤ (pos parts *ℤ c)) (pos parts *ℤ weighted_costs lots book first xs) _
      (w.weight * pays price ws first w) (sum_by (λ w. w.weight * pays price ws first w) xs) _ turned here later split s

  reserves_tight : (reserves : List ℕ) (book : Book) (parts : ℕ) (first : List Choice)
      → list_all (is_tight_alone reserves book parts price own) first ≡ true
      → own_pay price ws own first ≤ parts * weighted_reserves reserves book first own
  reserves_tight reserves book parts [] h = omega arith
  reserves_tight reserves book parts (c ∷ first) h =
      let r : ℕ = weighed_choice reserves book c in
      let both = and_parts (is_tight_alone reserves book parts price own c) (list_all (is_tight_alone reserves book parts price own) first) h in
      let s : weighted_reserves reserves book (c ∷ first) own ≡ own c.bidder * r + weighted_reserves reserves book first own =
      sum_by-cons (λ (x : Choice). own x.bidder * weighed_choice reserves book x) c first in
      let u : parts * weighted_reserves reserves book (c ∷ first) own ≡ parts * (own c.bidder * r) + parts * weighted_reserves reserves book first own =
      ap (λ (n : ℕ). parts * n) s ∙ spread parts (own c.bidder * r) (weighted_reserves reserves book first own) in
      let t = sum_by-cons (λ (x : Choice). own x.bidder * price x.bidder) c first in
      let low = tight_natural (own c.bidder) (price c.bidder) (parts * r) both.0 in
      let turned = swap_naturals parts (own c.bidder) r in
      let later = reserves_tight reserves book parts first both.1 in
      omega arith

parts_of_both_up : (parts r m n : ℕ) (costs : ℤ) → pos m ≤ℤ (pos parts *ℤ costs) → n ≤ parts * r → pos (m + n) ≤ℤ (pos parts *ℤ (costs +ℤ pos r))
parts_of_both_up parts r m n costs low small =
    let split = times-sum (pos parts) costs (pos r) in
    let turned : (pos parts *ℤ pos r) ≡ pos (parts * r) = omega (arith, ints) in
    omega (arith, ints)

-- where weights are tight, no more is paid for them than has to be
pub tight_paid : (reserves : List ℕ) (lots : Lots) (book : Book) (first : List Choice) (parts : ℕ) (price : ℕ → ℕ) (weights : List Weighted) (own : ℕ → ℕ)
    → both_tight reserves lots book first parts price weights own ≡ true
    → pos (weighted_paid weights own price first) ≤ℤ weighted_parts reserves lots book first parts weights own
tight_paid reserves lots book first parts price weights own tight =
    let both = and_parts (list_all (is_tight lots book first parts price) weights) (list_all (is_tight_alone reserves book parts price own) first) tight in
    let costs = costs_tight price weights own lots book first parts weights both.0 in
    let met = reserves_tight price weights own reserves book parts first both.1 in
    subst (λ (n : ℕ). pos n ≤ℤ weighted_parts reserves lots book first parts weights own) (paid_both_ways price weights own first)
    (parts_of_both_up parts (weighted_reserves reserves book first own) _ _ (weighted_costs lots book first weights) costs met)

-- ---------- the least sum ----------

even_paid : (weights : List Weighted) (own price : ℕ → ℕ) (scale : ℕ) (first : List Choice)
    → list_all (λ c. on weights own c == scale) first ≡ true → weighted_paid weights own price first ≡ scale * paid price first
even_paid weights own price scale [] h = omega arith
even_paid weights own price scale (c ∷ first) h =
    let parts = and_parts (on weights own c == scale) (list_all (λ c. on weights own c == scale) first) h in
    let s : weighted_paid weights own price (c ∷ first) ≡ on weights own c * price c.bidder + weighted_paid weights own price first =
    sum_by-cons (λ (x : Choice). on weights own x * price x.bidder) c first in
    let t : scale * paid price (c ∷ first) ≡ scale * price c.bidder + scale * paid price first =
    ap (λ (n : ℕ). scale * n) (sum_by-cons (λ (x : Choice). price x.bidder) c first) ∙ spread scale (price c.bidder) (paid price first) in
    let here : on weights own c * price c.bidder ≡ scale * price c.bidder =
    ap (λ (n : ℕ). n * price c.bidder) (eqb-true (on weights own c) scale parts.0) in
    let later = even_paid weights own price scale first parts.1 in
    omega arith

-- what tight weights show of other prices that suffice
pub tight_show : (reserves : List ℕ) (lots : Lots) (book : Book) (first : List Choice) (parts : ℕ) (price : ℕ → ℕ) (weights : List Weighted) (own : ℕ → ℕ)
    → All (λ w. IsGreatest lots book (has w.group) w.without) weights → both_tight reserves lots book first parts price weights own ≡ true
    → (parts' : ℕ) (price' : ℕ → ℕ) → Suffice reserves lots book first parts' price'
    → parts' * weighted_paid weights own price first ≤ parts * weighted_paid weights own price' first
tight_show reserves lots book first parts price weights own greatest tight parts' price' suffice =
    crossed parts parts' (weighted_paid weights own price first) (weighted_paid weights own price' first)
    (weighted_costs lots book first weights +ℤ pos (weighted_reserves reserves book first own))
    (tight_paid reserves lots book first parts price weights own tight)
    (paid_for reserves lots book first parts' price' weights own suffice greatest)

is_least : (reserves : List ℕ) (lots : Lots) (book : Book) (first : List Choice) (parts : ℕ) (price : ℕ → ℕ) (w : Weights)
    → All (λ x. IsGreatest lots book (has x.group) x.without) w.groups
    → shows_least reserves lots book first parts price w ≡ true
    → (parts' : ℕ) (price' : ℕ → ℕ) → Suffice reserves lots book first parts' price' → IsNoLower first parts price parts' price'
is_least reserves lots book first parts price w greatest shows parts' price' suffice =
    let even : Bool = list_all (λ c. weights_on w c == w.scale) first in
    let outer = and_parts (nat_le 1 w.scale && even) (are_tight reserves lots book first parts price w) shows in
    let inner = and_parts (nat_le 1 w.scale) even outer.0 in
    let both = tight_show reserves lots book first parts price w.groups w.own greatest outer.1 parts' price' suffice in
    let mine = ap (λ (n : ℕ). parts' * n) (even_paid w.groups w.own price w.scale first inner.1) in
    let others = ap (λ (n : ℕ). parts * n) (even_paid w.groups w.own price' w.scale first inner.1) in
    let a = swap_naturals parts' w.scale (paid price first) in
    let b = swap_naturals parts w.scale (paid price' first) in
    let scaled : w.scale * (parts' * paid price first) ≤ w.scale * (parts * paid price' first) = omega arith in
    le_of_mul-le-mul_left scaled (leb-true 1 w.scale inner.0)

-- ---------- the nearest ----------

equation : (scale push parts parts' price alone weight : ℕ) → scale * price + push ≡ scale * (parts * alone) + weight
    → scale * (parts' * price) + parts' * push ≡ scale * ((parts * parts') * alone) + parts' * weight
equation scale push parts parts' price alone weight e =
    let scaled : parts' * (scale * price + push) ≡ parts' * (scale * (parts * alone) + weight) = ap (λ (n : ℕ). parts' * n) e in
    omega arith

equations_of : (alone price : ℕ → ℕ) (w : Weights) (push parts parts' : ℕ) (first : List Choice)
    → list_all (is_moved alone parts price push w) first ≡ true
    → AllByRecursion (λ c. w.scale * (parts' * price c.bidder) + parts' * push ≡ w.scale * ((parts * parts') * alone c.bidder) + parts' * weights_on w c) first
equations_of alone price w push parts parts' [] h = tt
equations_of alone price w push parts parts' (c ∷ first) h =
    let both = and_parts (is_moved alone parts price push w c)
    (list_all (is_moved alone parts price push w) first) h in
    let e = eqb-true (w.scale * price c.bidder + push) (w.scale * (parts * alone c.bidder) + weights_on w c) both.0 in (
      equation w.scale push parts parts' (price c.bidder) (alone c.bidder) (weights_on w c) e,
      equations_of alone price w push parts parts' first both.1,
    )

-- a sum of products, one factor of which is multiplied
turned_product : (k m n : ℕ) → m * (k * n) ≡ k * (m * n)
turned_product k m n = omega arith

times_paid : (k : ℕ) (weights : List Weighted) (own price : ℕ → ℕ) (first : List Choice)
    → sum_by (λ c. on weights own c * (k * price c.bidder)) first ≡ k * weighted_paid weights own price first
times_paid k weights own price first =
    sum_agree (λ c. on weights own c * (k * price c.bidder)) (λ c. k * (on weights own c * price c.bidder)) first
    (each _ first (λ c. turned_product k (on weights own c) (price c.bidder)))
    ∙ sym (times_sum k (λ c. on weights own c * price c.bidder) first)

is_nearest : (reserves : List ℕ) (lots : Lots) (book : Book) (first : List Choice) (alone : ℕ → ℕ) (parts : ℕ) (price : ℕ → ℕ) (push : ℕ) (w : Weights)
    → All (λ x. IsGreatest lots book (has x.group) x.without) w.groups
    → shows_nearest reserves lots book first alone parts price push w ≡ true
    → (parts' : ℕ) (price' : ℕ → ℕ) → Suffice reserves lots book first parts' price' → IsNoLower first parts' price' parts price
    → IsAsNear alone first parts price parts' price' → AreSame first parts price parts' price'
is_nearest reserves lots book first alone parts price push w greatest shows parts' price' suffice less near =
    let even : Bool = list_all (is_moved alone parts price push w) first in
    let outer = and_parts (nat_le 1 w.scale && even) (are_tight reserves lots book first parts price w) shows in
    let inner = and_parts (nat_le 1 w.scale) even outer.0 in
    let both = tight_show reserves lots book first parts price w.groups w.own greatest outer.1 parts' price' suffice in
    let x : Choice → ℕ = λ c. parts * price' c.bidder in
    let y : Choice → ℕ = λ c. parts' * price c.bidder in
    let of_x : sum_by x first ≡ parts * paid price' first = sym (times_sum parts (λ (c : Choice). price' c.bidder) first) in
    let of_y : sum_by y first ≡ parts' * paid price first = sym (times_sum parts' (λ (c : Choice). price c.bidder) first) in
    let pull_x = times_paid parts w.groups w.own price' first in
    let pull_y = times_paid parts' w.groups w.own price first in
    let law = nearer x y (λ c. (parts * parts') * alone c.bidder) (weights_on w) w.scale push parts' first (leb-true 1 w.scale inner.0)
    (equations_of alone price w push parts parts' first inner.1) (omega arith) (omega arith) in
    let same = same_where_none_apart x y first (omega arith) in
    All-from_recursion _ first (all_agree (λ c. x c ≡ y c) (λ c. y c ≡ x c) first (λ c e. sym e) same)

-- no fault says that both are shown
both_shown : (a b : Bool) → ◌≡◌ {A = Option RuleFault} (first_failed ((a, NotLeast) ∷ (b, NotNearest) ∷ [])) None → (a ≡ true) × (b ≡ true)
both_shown true true h = (refl, refl)
both_shown true false h = cc
both_shown false b h = cc

pub shown_are_the_prices : ShownAreThePrices
shown_are_the_prices reserves lots book first alone parts price rule suffice greatest greatest' shown =
    let least : Bool = shows_least reserves lots book first parts price rule.least in
    let near : Bool = shows_nearest reserves lots book first alone parts price rule.push rule.nearest in
    let both = both_shown least near shown in record {
      suffice = suffice;
      least = is_least reserves lots book first parts price rule.least greatest both.0;
      nearest = is_nearest reserves lots book first alone parts price rule.push rule.nearest greatest' both.1;
    }

-- ---------- no two ----------

pub the_prices_are_one : ThePricesAreOne
the_prices_are_one reserves lots book first alone parts parts' price price' a b =
    let d : ℕ = distance_from_alone alone first (parts * parts') (in_smaller parts price') in
    let e : ℕ = distance_from_alone alone first (parts * parts') (in_smaller parts' price) in
    let from_a : d ≤ e → AreSame first parts price parts' price' = a.nearest parts' price' b.suffice (b.least parts price a.suffice) in
    let turn : parts * parts' ≡ parts' * parts = mul_comm parts parts' in
    let from_b : IsAsNear alone first parts' price' parts price → AreSame first parts' price' parts price =
    b.nearest parts price a.suffice (a.least parts' price' b.suffice) in
    ⊎_elim
    (λ less. from_a (omega arith))
    (λ more. All-from_recursion _ first (all_agree (λ c. parts * price' c.bidder ≡ parts' * price c.bidder) (λ c. parts' * price c.bidder ≡ parts * price' c.bidder)
    first (λ c e. sym e) (recursion_from_All _ first (from_b
    (subst (λ (n : ℕ). distance_from_alone alone first n (in_smaller parts' price) ≤ distance_from_alone alone first n (in_smaller parts price')) turn more)))))
    (cases_lt d e)
