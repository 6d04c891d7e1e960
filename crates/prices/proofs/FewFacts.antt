-- How much the winners of an allocation can pay, and a group can cost.
use Rattle.std.proofs.Common.{◌≡◌, ℕ, Bool, eqb-true, eq-eqb, le_refl, ⊎_elim, zero, suc, ◌+◌, ◌*◌, ◌-◌, ◌<◌, ◌≤◌, ◌^◌, true, false, not}
use Rattle.std.proofs.Common.{cond, List, [], ◌∷◌, Some, length, slice_index_or, refl, sym, ap, ◌∙◌, subst, arith, ℤ, drop}
use Rattle.std.proofs.Common.{ap₂, negsuc, pos, neg_ℤ, ◌≤ℤ◌}
use Rattle.std.specs.Prelude.{count_by, sum_by, unsigned_abs, All, ◌==◌, ◌*ℤ◌}
use Rattle.std.specs.List.{AllByRecursion, AllZip, zip}
use Rattle.std.specs.Int.{int_max}
use Rattle.std.proofs.lemmas.Bool.{both_ways, cases_Bool, false_from_ne_true, or_from, or_left}
use Rattle.std.proofs.lemmas.Int.{clamps, ints, to_z-of_z}
use lib.Dec.{T}
use lib.Signed.{non_neg}
use lib.IntN.{nat_abs}
use mir.Syntax.{w128}
use mir.Val.{SFits, to_z, of_z}
use Rattle.std.proofs.Common.{Fits, w64}
use Rattle.std.proofs.lemmas.List.Filters.{sum_by-filter_both}
use Rattle.std.proofs.lemmas.List.Sums.{sum_by-cons}
use Rattle.std.proofs.lemmas.List.Elements.{recursion_from_All}
use Rattle.std.proofs.Math.Nat.{mul-le-mul_left, le_of_mul-le-mul_left}
use Rattle.auction_terms.specs.declared.limits.TheConstants.{GREATEST_AMOUNT, MOST_BIDDERS}
use Rattle.auction_terms.specs.declared.bids.Bid.{Bid}
use Rattle.auction_terms.specs.declared.bids.Choice.{Choice}
use Rattle.auction_terms.specs.Groups.{has}
use Rattle.auction_terms.specs.Packages.{Lots, left, weighed}
use Rattle.auction_terms.specs.Allocations.{Book, amount_of, bid_at, bid_of, form_of, is_eligible, loads, total, weighed_choice, IsFeasible}
use Rattle.auction_terms.specs.Limits.{IsBook, IsLots}
use Rattle.auction_terms.proofs.AllocationFacts.{value_of}
use Rattle.auction_terms.proofs.OfferFacts.{all_agree, sum_agree, sum_filter}
use Rattle.program_rows.proofs.EachFacts.{each}
use Rattle.program_rows.proofs.LegalFacts.{worth_limit}
use Rattle.outcome.specs.PointAllocation.{HasRisingBidders}
use Rattle.outcome.specs.Report.{amounts_of_group, cost}
use Rattle.outcome.proofs.CostFacts.{costs_are_bounded}
use Rattle.program_rows.specs.Faithful.{IsGreatest}
use Rattle.prices.specs.inside.Weighing.{weight_by}
use Rattle.prices.specs.Alone.{AreCostsAlone}
use Rattle.prices.specs.Blocking.{ArePrices}
use Rattle.prices.specs.Parts.{Suffice}
use Rattle.prices.specs.Prices.{paid_by_group}
use Rattle.prices.specs.Weights.{Weighted, weight_on, weighted}
use Rattle.prices.proofs.CodeFacts.{amount_small, found_in}
use Rattle.prices.proofs.ExistFacts.{every_group_has_a_cost}

-- ---------- few winners ----------

within_book : (book : Book) (b : ℕ) (j : ℕ) (x : Bid) → bid_at (slice_index_or book b []) j ≡ Some x → b < length book
within_book [] b zero x e = cc
within_book [] b (suc j) x e = cc
within_book (form ∷ book) zero j x e = omega arith
within_book (form ∷ book) (suc b) j x e = let h = within_book book b j x e in omega arith

bidder_there : (book : Book) (b j : ℕ) (x : Bid) → bid_at (form_of book b) j ≡ Some x → b ≤ length book
bidder_there book zero j x e = omega arith
bidder_there book (suc b) j x e = let h = within_book book b j x e in omega arith

-- a bidder with a bid is one of the book's
pub bidder_at : (book : Book) (b j : ℕ) (x : Bid) → bid_at (form_of book b) j ≡ Some x → (1 ≤ b) × (b ≤ length book)
bidder_at book zero zero x e = cc
bidder_at book zero (suc j) x e = cc
bidder_at book (suc b) j x e = (omega arith, bidder_there book (suc b) j x e)

rising_few : (a : List Choice) (low most : ℕ) → AllByRecursion (λ c. low ≤ c.bidder) a → AllByRecursion (λ c. c.bidder ≤ most) a
    → HasRisingBidders a → length a ≤ (most + 1) - low
rising_few [] low most l m h = omega arith
rising_few (c ∷ a) low most l m h =
    let later = rising_few a (c.bidder + 1) most (all_agree (λ (d : Choice). c.bidder < d.bidder) (λ (d : Choice). c.bidder + 1 ≤ d.bidder)
    a (λ d e. omega arith) h.0) m.1 h.1 in
    let here = l.0 in
    let there = m.0 in
    omega arith

any_low : (a : List Choice) → AllByRecursion (λ c. 0 ≤ c.bidder) a
any_low [] = tt
any_low (c ∷ a) = (omega arith, any_low a)

pub few_winners : (lots : Lots) (book : Book) (a : List Choice) → IsBook lots book → IsFeasible lots book (λ b. false) a
    → HasRisingBidders a → length a ≤ MOST_BIDDERS + 1
few_winners lots book a within f rising =
    let there = all_agree (λ c. is_eligible book (λ b. false) c ≡ true) (λ (c : Choice). c.bidder ≤ length book) a
    (λ c e. let v = value_of (bid_of book c) e in bidder_there book c.bidder c.bid v.0 v.1)
    (recursion_from_All (λ c. is_eligible book (λ b. false) c ≡ true) a f.eligible) in
    let few = rising_few a 0 (length book) (any_low a) there rising in
    let bidders = within.bidders in
    omega arith

-- ---------- small sums ----------

sum_small : (f : Choice → ℕ) (m : ℕ) (a : List Choice) → AllByRecursion (λ c. f c ≤ m) a → sum_by f a ≤ length a * m
sum_small f m [] h = omega arith
sum_small f m (c ∷ a) h =
    let s = sum_by-cons f c a in
    let here = h.0 in
    let later = sum_small f m a h.1 in
    omega arith

amounts_each : (lots : Lots) (book : Book) (a : List Choice) → IsBook lots book → AllByRecursion (λ c. amount_of book c ≤ GREATEST_AMOUNT) a
amounts_each lots book [] h = tt
amounts_each lots book (c ∷ a) h = (amount_small lots book c h, amounts_each lots book a h)

at_most_all : (n m : ℕ) → n ≤ m → n * GREATEST_AMOUNT ≤ m * GREATEST_AMOUNT
at_most_all n m h = omega arith

pub amounts_few : (lots : Lots) (book : Book) (a : List Choice) → IsBook lots book → IsFeasible lots book (λ b. false) a
    → HasRisingBidders a → sum_by (amount_of book) a ≤ 2 ^ 48
amounts_few lots book a within f rising =
    let few = few_winners lots book a within f rising in
    let small = sum_small (amount_of book) GREATEST_AMOUNT a (amounts_each lots book a within) in
    let both = at_most_all (length a) (MOST_BIDDERS + 1) few in
    omega arith

group_few : (book : Book) (group : List ℕ) (a : List Choice) → amounts_of_group book group a ≤ sum_by (amount_of book) a
group_few book group a = let e = sum_by-filter_both (λ (c : Choice). has group c.bidder) (λ (c : Choice). not (has group c.bidder))
    (λ x. refl) (amount_of book) a in omega arith

pub cost_few : (lots : Lots) (book : Book) (first : List Choice) (group : List ℕ) (without : List Choice) → IsBook lots book
    → IsGreatest lots book (λ b. false) first → HasRisingBidders first → IsGreatest lots book (has group) without
    → (pos 0 ≤ℤ cost lots book first group without) × (cost lots book first group without ≤ℤ pos (2 ^ 48))
cost_few lots book first group without within best rising other =
    let law = costs_are_bounded lots book group first without best other in
    let part = group_few book group first in
    let all = amounts_few lots book first within best.feasible rising in
    let low = law.not_negative in
    let high = law.at_most_amounts in
    (low, omega (arith, ints))

-- ---------- numbers of 128 bits ----------

pub fits_between : (z : ℤ) → neg_ℤ (pos (2 ^ 124)) ≤ℤ z → z ≤ℤ pos (2 ^ 124) → SFits w128 z
fits_between (pos n) low high = record { sfits = omega (arith, ints) }
fits_between (negsuc n) low high = record { sfits = omega (arith, ints) }

pub exact : (z : ℤ) → neg_ℤ (pos (2 ^ 124)) ≤ℤ z → z ≤ℤ pos (2 ^ 124) → to_z w128 (of_z w128 z) ≡ z
exact z low high = to_z-of_z w128 z (fits_between z low high)

-- a product of a weight and a cost
pub product_few : (w : ℕ) (cost : ℤ) → w ≤ 2 ^ 64 → pos 0 ≤ℤ cost → cost ≤ℤ pos (2 ^ 48) → (pos 0 ≤ℤ (pos w *ℤ cost)) × ((pos w *ℤ cost) ≤ℤ pos (2 ^ 112))
product_few w (pos k) small low high =
    let most : k ≤ 2 ^ 48 = omega (arith, ints) in
    let to : w * k ≤ w * (2 ^ 48) = mul-le-mul_left w most in
    (omega (arith, ints), omega (arith, ints))
product_few w (negsuc k) small low high = absurd (omega (arith, ints))

-- a product, and a sum, of numbers that fit
module _ (a k : ℤ) (w : ℕ) (cost : ℤ) (e : a ≡ pos w) (f : k ≡ cost) (small : w ≤ 2 ^ 64) (low : pos 0 ≤ℤ cost) (high : cost ≤ℤ pos (2 ^ 48)) where
  pub factors : to_z w128 (of_z w128 a) *ℤ to_z w128 (of_z w128 k) ≡ pos w *ℤ cost
  factors =
      let left : to_z w128 (of_z w128 a) ≡ pos w = exact a (rw e (omega (arith, ints))) (rw e (omega (arith, ints))) ∙ e in
      let right : to_z w128 (of_z w128 k) ≡ cost = exact k (rw f (omega (arith, ints))) (rw f (omega (arith, ints))) ∙ f in
      ap₂ (λ (x y : ℤ). x *ℤ y) left right

  pub product_fits : SFits w128 (to_z w128 (of_z w128 a) *ℤ to_z w128 (of_z w128 k))
  product_fits =
      let between = product_few w cost small low high in
      subst (SFits w128) (sym factors) (fits_between (pos w *ℤ cost) (let l = between.0 in omega (arith, ints)) (let h = between.1 in omega (arith, ints)))

  pub product_is : to_z w128 (of_z w128 (to_z w128 (of_z w128 a) *ℤ to_z w128 (of_z w128 k))) ≡ pos w *ℤ cost
  product_is = to_z-of_z w128 (to_z w128 (of_z w128 a) *ℤ to_z w128 (of_z w128 k)) product_fits ∙ factors

-- a cost as the code has it, within the same bounds
pub between : (k cost : ℤ) → k ≡ cost → pos 0 ≤ℤ cost → cost ≤ℤ pos (2 ^ 48)
    → (pos 0 ≤ℤ to_z w128 (of_z w128 k)) × (to_z w128 (of_z w128 k) ≤ℤ pos (2 ^ 48))
between k cost e low high =
    let same : to_z w128 (of_z w128 k) ≡ cost = exact k (rw e (omega (arith, ints))) (rw e (omega (arith, ints))) ∙ e in
    (rw same low, rw same high)

-- the greater of a cost and a reserve
pub record Greater (m : ℤ) (cost : ℤ) (reserve : ℕ) : Type 0 where
  pub is : to_z w128 (of_z w128 m) ≡ int_max cost (pos reserve)
  pub not_negative : T (non_neg (to_z w128 (of_z w128 m)))
  pub fits : Fits w64 (nat_abs (to_z w128 (of_z w128 m)))

natural_fits : (z : ℤ) → pos 0 ≤ℤ z → z ≤ℤ pos (2 ^ 64 - 1) → T (non_neg z) × Fits w64 (nat_abs z)
natural_fits (pos n) low high = (tt, record { fits = omega (arith, ints) })
natural_fits (negsuc n) low high = absurd (omega (arith, ints))

pub greater_is : (m k f : ℤ) (r : ℕ) (cost : ℤ) (reserve : ℕ) → m ≡ int_max (to_z w128 (of_z w128 k)) (to_z w128 (of_z w128 f))
    → k ≡ cost → f ≡ pos r → r ≡ reserve → pos 0 ≤ℤ cost → cost ≤ℤ pos (2 ^ 48) → r < 2 ^ 64 → Greater m cost reserve
greater_is m k f r cost reserve e is_cost is_reserve same low high small =
    let left : to_z w128 (of_z w128 k) ≡ cost = exact k (rw is_cost (omega (arith, ints))) (rw is_cost (omega (arith, ints))) ∙ is_cost in
    let right : to_z w128 (of_z w128 f) ≡ pos reserve = exact f (rw is_reserve (omega (arith, ints))) (rw is_reserve (omega (arith, ints))) ∙ is_reserve ∙ ap pos same in
    let value : m ≡ int_max cost (pos reserve) = e ∙ ap₂ int_max left right in
    let least : pos 0 ≤ℤ int_max cost (pos reserve) = omega (arith, ints, clamps) in
    let most : int_max cost (pos reserve) ≤ℤ pos (2 ^ 64 - 1) = omega (arith, ints, clamps) in
    let whole : to_z w128 (of_z w128 m) ≡ m = exact m (rw value (omega (arith, ints))) (rw value (omega (arith, ints))) in
    let both = natural_fits (int_max cost (pos reserve)) least most in
    let all : to_z w128 (of_z w128 m) ≡ int_max cost (pos reserve) = whole ∙ value in
    record {
      is = all;
      not_negative = subst (λ (z : ℤ). T (non_neg z)) (sym all) both.0;
      fits = subst (λ (z : ℤ). Fits w64 (nat_abs z)) (sym all) both.1;
    }

-- ---------- weights, listed with the groups ----------

pub weights_are : (groups : List (List ℕ)) (won : List (List Choice)) (weights : List ℕ) (bidder : ℕ) → length won ≡ length groups
    → weight_on (weighted groups won weights) bidder ≡ weight_by groups weights bidder
weights_are [] won weights bidder e = refl
weights_are (g ∷ groups) [] weights bidder e = absurd (omega arith)
weights_are (g ∷ groups) (w ∷ won) [] bidder e = refl
weights_are (g ∷ groups) (w ∷ won) (y ∷ weights) bidder e =
    let here : Weighted = record { weight = y; group = g; without = w } in
    let s = sum_by-cons (λ (x : Weighted). cond (has x.group bidder) x.weight 0) here (weighted groups won weights) in
    let t = sum_by-cons (λ (x : List ℕ × ℕ). cond (has x.0 bidder) x.1 0) (g, y) (zip groups weights) in
    let later = weights_are groups won weights bidder (omega arith) in
    omega arith

pub all_greatest : (lots : Lots) (book : Book) (groups : List (List ℕ)) (won : List (List Choice)) (weights : List ℕ)
    → AllZip (λ group a. IsGreatest lots book (has group) a) groups won
    → AllByRecursion (λ w. IsGreatest lots book (has w.group) w.without) (weighted groups won weights)
all_greatest lots book [] won weights h = tt
all_greatest lots book (g ∷ groups) [] weights h = tt
all_greatest lots book (g ∷ groups) (w ∷ won) [] h = tt
all_greatest lots book (g ∷ groups) (w ∷ won) (y ∷ weights) h = (h.0, all_greatest lots book groups won weights h.1)

-- one more weight
weight_step : (groups : List (List ℕ)) (weights : List ℕ) (bidder i : ℕ) → i < length groups → i < length weights
    → weight_by (drop i groups) (drop i weights) bidder ≡ cond (has (slice_index_or groups i []) bidder) (slice_index_or weights i 0) 0 +
    weight_by (drop (suc i) groups) (drop (suc i) weights) bidder
weight_step [] weights bidder i l m = absurd (omega arith)
weight_step (g ∷ groups) [] bidder i l m = absurd (omega arith)
weight_step (g ∷ groups) (y ∷ weights) bidder zero l m = sum_by-cons (λ (x : List ℕ × ℕ). cond (has x.0 bidder) x.1 0) (g, y) (zip groups weights)
weight_step (g ∷ groups) (y ∷ weights) bidder (suc i) l m = weight_step groups weights bidder i (omega arith) (omega arith)

pub weights_preserved : (groups : List (List ℕ)) (weights : List ℕ) (bidder i sum n all : ℕ) → i < length groups → i < length weights
    → n ≡ cond (has (slice_index_or groups i []) bidder) (slice_index_or weights i 0) 0
    → sum + weight_by (drop i groups) (drop i weights) bidder ≡ all → (sum + n) + weight_by (drop (i + 1) groups) (drop (i + 1) weights) bidder ≡ all
weights_preserved groups weights bidder i sum n all l m e h =
    let step = weight_step groups weights bidder i l m in
    let next : i + 1 ≡ suc i = omega arith in
    subst (λ (k : ℕ). (sum + n) + weight_by (drop k groups) (drop k weights) bidder ≡ all) (sym next) (omega arith)

-- an allocation at a place, without the group there
pub greatest_at : (lots : Lots) (book : Book) (groups : List (List ℕ)) (won : List (List Choice)) (i k : ℕ) (g : List ℕ) (w : List Choice)
    → AllZip (λ group a. IsGreatest lots book (has group) a) groups won
    → i < length groups → k ≡ i → g ≡ slice_index_or groups k [] → w ≡ slice_index_or won i w → IsGreatest lots book (has g) w
greatest_at lots book [] won i k g w h l e f j = absurd (omega arith)
greatest_at lots book (x ∷ groups) [] i k g w h l e f j = absurd h
greatest_at lots book (x ∷ groups) (y ∷ won) zero k g w h l e f j =
    let here : g ≡ x = f ∙ ap (λ (n : ℕ). slice_index_or (x ∷ groups) n []) e in
    subst (λ (v : List Choice). IsGreatest lots book (has g) v) (sym j) (subst (λ (v : List ℕ). IsGreatest lots book (has v) y) (sym here) h.0)
greatest_at lots book (x ∷ groups) (y ∷ won) (suc i) k g w h l e f j =
    greatest_at lots book groups won i i g w h.1 (omega arith) refl (f ∙ ap (λ (n : ℕ). slice_index_or (x ∷ groups) n []) e) j

pub as_many_won : (lots : Lots) (book : Book) (groups : List (List ℕ)) (won : List (List Choice))
    → AllZip (λ group a. IsGreatest lots book (has group) a) groups won → length won ≡ length groups
as_many_won lots book [] [] h = refl
as_many_won lots book [] (w ∷ won) h = absurd h
as_many_won lots book (g ∷ groups) [] h = absurd h
as_many_won lots book (g ∷ groups) (w ∷ won) h = ap suc (as_many_won lots book groups won h.1)

-- ---------- prices, reserves and costs alone ----------

few_parts : (parts amount price : ℕ) → parts ≤ 10 ^ 6 → amount ≤ GREATEST_AMOUNT → price ≤ parts * amount → price ≤ 10 ^ 18
few_parts parts amount price few small most =
    let a : parts * amount ≤ parts * GREATEST_AMOUNT = mul-le-mul_left parts small in
    omega arith

whole_few : (parts reserve amount price : ℕ) → 1 ≤ parts → parts * reserve ≤ price → price ≤ parts * amount → amount ≤ GREATEST_AMOUNT
    → reserve ≤ GREATEST_AMOUNT
whole_few parts reserve amount price some met most small =
    let scaled : parts * reserve ≤ parts * amount = omega arith in
    let less : reserve ≤ amount = le_of_mul-le-mul_left scaled some in
    omega arith

not_above : (parts paid price amount : ℕ) (cost : ℤ) → 1 ≤ parts → (pos parts *ℤ cost) ≤ℤ pos paid → paid ≡ price → price ≤ parts * amount → cost ≤ℤ pos amount
not_above parts paid price amount (pos n) some covered pays most =
    let scaled : parts * n ≤ parts * amount = omega (arith, ints) in
    let less : n ≤ amount = le_of_mul-le-mul_left scaled some in
    omega (arith, ints)
not_above parts paid price amount (negsuc n) some covered pays most = omega (arith, ints)

size_few : (z : ℤ) → pos 0 ≤ℤ z → z ≤ℤ pos GREATEST_AMOUNT → unsigned_abs z ≤ GREATEST_AMOUNT
size_few (pos n) low high = omega (arith, ints)
size_few (negsuc n) low high = absurd (omega (arith, ints))

greater_few : (parts alone reserve amount price paid : ℕ) (cost : ℤ) → alone ≡ unsigned_abs (int_max cost (pos reserve)) → 1 ≤ parts
    → reserve ≤ GREATEST_AMOUNT → (pos parts *ℤ cost) ≤ℤ pos paid → paid ≡ price → price ≤ parts * amount → amount ≤ GREATEST_AMOUNT
    → alone ≤ GREATEST_AMOUNT
greater_few parts alone reserve amount price paid cost e some low covered pays most small =
    let less : cost ≤ℤ pos amount = not_above parts paid price amount cost some covered pays most in
    let both : int_max cost (pos reserve) ≤ℤ pos GREATEST_AMOUNT = omega (arith, ints, clamps) in
    let not_below : pos 0 ≤ℤ int_max cost (pos reserve) = omega (arith, ints, clamps) in
    subst (λ (n : ℕ). n ≤ GREATEST_AMOUNT) (sym e) (size_few (int_max cost (pos reserve)) not_below both)

-- a bidder of one choice is what a group of that bidder alone pays for
one_of : (b : ℕ) (x : ℕ) → has (b ∷ []) x ≡ (x == b)
one_of b x = ⊎_elim
    (λ e. let f = eqb-true x b e in rw (e, f) (or_left (b == b) false (eq-eqb b b refl)))
    (λ e. rw e (or_from (b == x) false (false_from_ne_true (b == x) (λ t. both_ways (x == b) e (eq-eqb x b (sym (eqb-true b x t))))) refl))
    (cases_Bool (x == b))

paid_alone : (first : List Choice) (price : ℕ → ℕ) (k : ℕ) (d : Choice) → k < length first
    → count_by (λ c. c.bidder == (slice_index_or first k d).bidder) first ≤ 1
    → paid_by_group price ((slice_index_or first k d).bidder ∷ []) first ≡ price (slice_index_or first k d).bidder
paid_alone first price k d l one =
    let b : ℕ = (slice_index_or first k d).bidder in
    sum_filter (λ (c : Choice). price c.bidder) (λ c. has (b ∷ []) c.bidder) first
    ∙ sum_agree (λ (c : Choice). cond (has (b ∷ []) c.bidder) (price c.bidder) 0) (λ (c : Choice). cond (c.bidder == b) (price c.bidder) 0) first
    (each _ first (λ c. ap (λ (t : Bool). cond t (price c.bidder) 0) (one_of b c.bidder)))
    ∙ sym (sum_filter (λ (c : Choice). price c.bidder) (λ c. c.bidder == b) first)
    ∙ found_in (λ (c : Choice). price c.bidder) b first k d l refl one

module _ (lots : Lots) (book : Book) (first : List Choice) (parts : ℕ) (price : ℕ → ℕ) (within : IsBook lots book) (prices : ArePrices book first parts price) where
  pub prices_few : parts ≤ 10 ^ 6 → All (λ c. price c.bidder ≤ 10 ^ 18) first
  prices_few few k d l =
      let most = prices k d l in
      let small = amount_small lots book (slice_index_or first k d) within in
      few_parts parts (amount_of book (slice_index_or first k d)) (price (slice_index_or first k d).bidder) few small most

  -- a reserve that a price meets is at most the amount
  pub reserves_few : (reserves : List ℕ) → Suffice reserves lots book first parts price → All (λ c. weighed_choice reserves book c ≤ GREATEST_AMOUNT) first
  reserves_few reserves suffice k d l =
      let met = suffice.meet k d l in
      let most = prices k d l in
      let small = amount_small lots book (slice_index_or first k d) within in
      whole_few parts (weighed_choice reserves book (slice_index_or first k d)) (amount_of book (slice_index_or first k d))
      (price (slice_index_or first k d).bidder) suffice.some met most small

  -- what a group of one pays is that bidder's price, and so it costs no more than the bidder's amount
  pub alone_few : (reserves : List ℕ) (alone : ℕ → ℕ) → Suffice reserves lots book first parts price → IsFeasible lots book (λ b. false) first
      → AreCostsAlone reserves lots book first alone → All (λ c. alone c.bidder ≤ GREATEST_AMOUNT) first
  alone_few reserves alone suffice feasible costs k d l =
      let c : Choice = slice_index_or first k d in
      let there = every_group_has_a_cost lots book (c.bidder ∷ []) within in
      let is = costs k d l there.0 there.1 in
      let reserve = reserves_few reserves suffice k d l in
      let covered = suffice.covers (c.bidder ∷ []) there.0 there.1 in
      let pays = paid_alone first price k d l (feasible.one_bid_each c.bidder) in
      let most = prices k d l in
      let small = amount_small lots book c within in
      greater_few parts (alone c.bidder) (weighed_choice reserves book c) (amount_of book c) (price c.bidder)
      (paid_by_group price (c.bidder ∷ []) first) (cost lots book first (c.bidder ∷ []) there.0)
      is suffice.some reserve covered pays most small

-- ---------- totals ----------

left_no_more : (w n q : List ℕ) → weighed w (left n q) ≤ weighed w n
left_no_more [] n q = le_refl 0
left_no_more (k ∷ w) [] q = le_refl 0
left_no_more (k ∷ w) (m ∷ n) [] = let later = left_no_more w n [] in omega arith
left_no_more (k ∷ w) (m ∷ n) (x ∷ q) =
    let later = left_no_more w n q in
    let here : k * (m - x) ≤ k * m = mul-le-mul_left k (omega arith) in
    omega arith

pub total_few : (lots : Lots) (book : Book) (a : List Choice) → IsLots lots → IsBook lots book → IsFeasible lots book (λ b. false) a
    → HasRisingBidders a → total lots book a ≤ 2 ^ 60
total_few lots book a small within f rising =
    let amounts = amounts_few lots book a within f rising in
    let less = left_no_more lots.values lots.supply (loads lots book a) in
    let most = worth_limit lots small in
    omega arith

pub total_in_parts_few : (parts n : ℕ) → parts ≤ 10 ^ 6 → n ≤ 2 ^ 60 → parts * n ≤ 2 ^ 90
total_in_parts_few parts n few small =
    let a : parts * n ≤ parts * (2 ^ 60) = mul-le-mul_left parts small in
    omega arith

pub product_of : (a b m n : ℕ) → a ≡ m → b ≡ n → a * b ≡ m * n
product_of a b m n e f = ap₂ (λ (x y : ℕ). x * y) e f
