-- What rounding up to whole pounds leaves of prices in parts of a pound.
use Rattle.std.proofs.Common.{◌≡◌, ℕ, ◌+◌, ◌*◌, ◌<◌, ◌≤◌, List, [], ◌∷◌, sym, ap, ◌∙◌, arith, ⊎_elim, ℤ, pos, ◌≤ℤ◌}
use Rattle.std.specs.Prelude.{filter, ◌*ℤ◌}
use Rattle.std.specs.Int.{div_ceil}
use Rattle.std.specs.List.{AllByRecursion}
use Rattle.std.proofs.lemmas.Bool.{cases_lt}
use Rattle.std.proofs.lemmas.Grind.{div_ceil_times}
use Rattle.std.proofs.lemmas.Int.{ints, by_lt_z}
use Rattle.std.proofs.lemmas.List.Sums.{sum_by-cons}
use Rattle.std.proofs.lemmas.List.Elements.{recursion_from_All, All-from_recursion}
use Rattle.std.proofs.Math.Nat.{mul-le-mul_left, le_of_mul-le-mul_left}
use Rattle.auction_terms.specs.declared.bids.Choice.{Choice}
use Rattle.auction_terms.specs.Groups.{has}
use Rattle.auction_terms.specs.Allocations.{weighed_choice}
use Rattle.auction_terms.proofs.OfferFacts.{all_agree}
use Rattle.optimality.proofs.ProductFacts.{times-natural}
use Rattle.outcome.specs.Pricing.{paid}
use Rattle.outcome.specs.Report.{cost}
use Rattle.prices.specs.Prices.{paid_by_group}
use Rattle.outcome.specs.Pricing.{in_pounds}
use Rattle.prices.specs.Rounding.{RoundedUpIsOne, RoundedUpSuffice}
use Rattle.prices.proofs.RuleFacts.{the_prices_are_one}
use Rattle.prices.proofs.WeightFacts.{mul_comm, spread}

up_enough : (parts n : ℕ) → 1 ≤ parts → n ≤ parts * div_ceil n parts
up_enough parts n one =
    let both = div_ceil_times n parts one in
    let turn = mul_comm parts (div_ceil n parts) in
    omega (arith, both.0)

up_no_more : (parts n : ℕ) → 1 ≤ parts → parts * div_ceil n parts < n + parts
up_no_more parts n one =
    let both = div_ceil_times n parts one in
    let turn = mul_comm parts (div_ceil n parts) in
    omega (arith, both.1)

sum_below : (parts : ℕ) (price : ℕ → ℕ) (a : List Choice) → 1 ≤ parts → paid price a ≤ parts * paid (in_pounds parts price) a
sum_below parts price [] one = omega arith
sum_below parts price (c ∷ a) one =
    let s = sum_by-cons (λ (x : Choice). price x.bidder) c a in
    let t : parts * paid (in_pounds parts price) (c ∷ a) ≡ parts * in_pounds parts price c.bidder + parts * paid (in_pounds parts price) a =
    ap (λ (n : ℕ). parts * n) (sum_by-cons (λ (x : Choice). in_pounds parts price x.bidder) c a)
    ∙ spread parts (in_pounds parts price c.bidder) (paid (in_pounds parts price) a) in
    let here : price c.bidder ≤ parts * in_pounds parts price c.bidder = up_enough parts (price c.bidder) one in
    let later = sum_below parts price a one in
    omega arith

whole_at_most : (parts n m : ℕ) (z : ℤ) → 1 ≤ parts → (pos parts *ℤ z) ≤ℤ pos n → n ≤ parts * m → z ≤ℤ pos m
whole_at_most parts n m z one low small = by_lt_z (pos m) z
    (λ above.
    let more : (pos parts *ℤ pos (m + 1)) ≤ℤ (pos parts *ℤ z) = times-natural parts (pos (m + 1)) z (omega (arith, ints)) in
    let split = spread parts m 1 in
    absurd (omega (arith, ints)))
    (λ below. below)

once : (z w : ℤ) → z ≤ℤ w → (pos 1 *ℤ z) ≤ℤ w
once z w low = omega (arith, ints)

pub rounded_up_suffice : RoundedUpSuffice
rounded_up_suffice reserves lots book first parts price suffice = record {
  some = omega arith;
  covers = λ group without greatest.
      once (cost lots book first group without) (pos (paid_by_group (in_pounds parts price) group first))
      (whole_at_most parts (paid_by_group price group first) (paid_by_group (in_pounds parts price) group first)
      (cost lots book first group without) suffice.some (suffice.covers group without greatest)
      (sum_below parts price (filter (λ c. has group c.bidder) first) suffice.some));
  meet = All-from_recursion _ first (all_agree (λ c. parts * weighed_choice reserves book c ≤ price c.bidder)
      (λ c. 1 * weighed_choice reserves book c ≤ in_pounds parts price c.bidder) first
      (λ c low.
      let up = up_enough parts (price c.bidder) suffice.some in
      let scaled : parts * weighed_choice reserves book c ≤ parts * in_pounds parts price c.bidder = omega arith in
      let whole : weighed_choice reserves book c ≤ in_pounds parts price c.bidder = le_of_mul-le-mul_left scaled suffice.some in
      omega arith)
      (recursion_from_All _ first suffice.meet));
}

-- of one amount in two scales
no_higher : (p q m n : ℕ) → 1 ≤ p → 1 ≤ q → q * m ≡ p * n → div_ceil m p ≤ div_ceil n q
no_higher p q m n some some' e =
    let x : ℕ = div_ceil m p in
    let y : ℕ = div_ceil n q in
    let a : q * (p * x) ≤ q * (m + p) = mul-le-mul_left q (omega (arith, up_no_more p m some)) in
    let b : p * n ≤ p * (q * y) = mul-le-mul_left p (up_enough q n some') in
    ⊎_elim
    (λ above.
    let more : q * (p * (y + 1)) ≤ q * (p * x) = mul-le-mul_left q (mul-le-mul_left p (omega arith)) in
    let less : q * (p * x + 1) ≤ q * (m + p) = mul-le-mul_left q (omega (arith, up_no_more p m some)) in
    absurd (omega arith))
    (λ below. below)
    (cases_lt y x)

same_up : (first : List Choice) (p q : ℕ) (price price' : ℕ → ℕ) → 1 ≤ p → 1 ≤ q → AllByRecursion (λ c. q * price c.bidder ≡ p * price' c.bidder) first
    → AllByRecursion (λ c. in_pounds p price c.bidder ≡ in_pounds q price' c.bidder) first
same_up [] p q price price' some some' h = tt
same_up (c ∷ first) p q price price' some some' h =
    let low = no_higher p q (price c.bidder) (price' c.bidder) some some' h.0 in
    let high = no_higher q p (price' c.bidder) (price c.bidder) some' some (sym h.0) in
    (omega arith, same_up first p q price price' some some' h.1)

pub rounded_up_is_one : RoundedUpIsOne
rounded_up_is_one reserves lots book first alone parts parts' price price' a b =
    let same = the_prices_are_one reserves lots book first alone parts parts' price price' a b in
    All-from_recursion _ first (same_up first parts parts' price price' a.suffice.some b.suffice.some (recursion_from_All _ first same))
