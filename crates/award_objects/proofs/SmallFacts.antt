-- Numbers that fit, whatever the allocations are.
use Rattle.std.proofs.Common.{◌≡◌, ◌+◌, ◌-◌, ◌*◌, ◌<◌, ◌≤◌, ◌^◌, ℕ, true, not, zero, suc, List, [], ◌∷◌, Option, Some, None, arith, get_or, length, ℤ, pos, negsuc, ◌-ℤ◌, ◌≤ℤ◌, refl, le-leb, le_refl}
use Rattle.std.specs.Prelude.{sum_by, unsigned_abs}
use Rattle.std.specs.Int.{int_max}
use Rattle.std.specs.List.{AllByRecursion}
use Rattle.std.proofs.lemmas.Bool.{and_from}
use Rattle.std.proofs.lemmas.Int.{clamps, ints}
use Rattle.std.proofs.lemmas.List.Filters.{sum_by-filter_both}
use Rattle.std.proofs.lemmas.List.Sums.{sum_by-cons}
use Rattle.auction_terms.specs.declared.bids.Bid.{Bid}
use Rattle.auction_terms.specs.declared.bids.Choice.{Choice}
use Rattle.auction_terms.specs.declared.limits.TheConstants.{GREATEST_AMOUNT, MOST_BIDDERS}
use Rattle.auction_terms.specs.Allocations.{Book, amount_of, bid_of, loads, total}
use Rattle.auction_terms.specs.Groups.{IsGroup, has}
use Rattle.auction_terms.specs.Limits.{IsBook, IsLots}
use Rattle.auction_terms.specs.Packages.{Lots, is_within, left}
use Rattle.auction_terms.proofs.OfferFacts.{all_agree}
use Rattle.auction_terms.proofs.WeighedFacts.{weighed_le}
use Rattle.outcome.specs.PointAllocation.{HasRisingBidders}
use Rattle.outcome.specs.Report.{amounts_of_group, cost}
use Rattle.prices.proofs.CodeFacts.{amount_small}
use Rattle.prices.proofs.FewFacts.{bidder_at}
use Rattle.program_rows.proofs.LegalFacts.{worth_limit}

-- ---------- groups ----------

number_above : (numbers : List ℕ) (i : ℕ) → IsGroup numbers → i < length numbers → i + 1 ≤ get_or numbers i 0
number_above numbers zero g l = let one = (g.each 0 0 l).some in omega arith
number_above numbers (suc i) g l =
    let before = number_above numbers i g (omega arith) in
    let rises = g.rising i (suc i) 0 (omega arith) l in
    omega arith

-- a group has no more bidders than there may be
pub small_group : (numbers : List ℕ) → IsGroup numbers → length numbers ≤ MOST_BIDDERS
small_group [] g = omega arith
small_group (n ∷ numbers) g =
    let last = number_above (n ∷ numbers) (length numbers) g (omega arith) in
    let most = (g.each (length numbers) 0 (omega arith)).few in
    omega arith

-- ---------- amounts ----------

unknown_bidder : (book : Book) (c : Choice) (o : Option Bid) → bid_of book c ≡ o → MOST_BIDDERS < c.bidder → length book ≤ MOST_BIDDERS → amount_of book c ≡ 0
unknown_bidder book c None e l few = rw e refl
unknown_bidder book c (Some x) e l few = let there = bidder_at book c.bidder c.bid x e in absurd (omega arith)

none_later : (lots : Lots) (book : Book) (a : List Choice) (low : ℕ) → IsBook lots book → AllByRecursion (λ c. low ≤ c.bidder) a
    → HasRisingBidders a → sum_by (amount_of book) a ≤ (MOST_BIDDERS + 1 - low) * GREATEST_AMOUNT
none_later lots book [] low b l r = omega arith
none_later lots book (c ∷ a) low b l r =
    let later = none_later lots book a (c.bidder + 1) b (all_agree (λ (d : Choice). c.bidder < d.bidder) (λ (d : Choice). c.bidder + 1 ≤ d.bidder) a (λ d e. omega arith) r.0) r.1 in
    let here = amount_small lots book c b in
    let unknown = unknown_bidder book c (bid_of book c) refl in
    let few = b.bidders in
    let both = sum_by-cons (amount_of book) c a in
    let least = l.0 in
    grind arith

any_low : (a : List Choice) → AllByRecursion (λ c. 0 ≤ c.bidder) a
any_low [] = tt
any_low (c ∷ a) = (omega arith, any_low a)

-- the amounts of an allocation by rising bidder
pub small_amounts : (lots : Lots) (book : Book) (a : List Choice) → IsBook lots book → HasRisingBidders a → sum_by (amount_of book) a ≤ 2 ^ 48
small_amounts lots book a b r = let most = none_later lots book a 0 b (any_low a) r in omega arith

-- ---------- costs ----------

left_within : (supply q : List ℕ) → is_within (left supply q) supply ≡ true
left_within [] q = refl
left_within (n ∷ supply) [] = and_from _ _ (le-leb n n (le_refl n)) (left_within supply [])
left_within (n ∷ supply) (x ∷ q) = and_from _ _ (le-leb (n - x) n (omega arith)) (left_within supply q)

pub small_total : (lots : Lots) (book : Book) (a : List Choice) → IsLots lots → IsBook lots book → HasRisingBidders a → total lots book a ≤ 2 ^ 60
small_total lots book a l b r =
    let amounts = small_amounts lots book a b r in
    let worth = weighed_le lots.values (left lots.supply (loads lots book a)) lots.supply (left_within lots.supply (loads lots book a)) in
    let all = worth_limit lots l in
    omega arith

of_group : (book : Book) (group : List ℕ) (a : List Choice) → amounts_of_group book group a ≤ sum_by (amount_of book) a
of_group book group a = let e = sum_by-filter_both (λ (c : Choice). has group c.bidder) (λ (c : Choice). not (has group c.bidder))
    (λ x. refl) (amount_of book) a in omega arith

small_difference : (t f g : ℕ) → t ≤ 2 ^ 60 → g ≤ 2 ^ 48 → (pos t -ℤ (pos f -ℤ pos g)) ≤ℤ pos (2 ^ 61)
small_difference t f g l m = omega (arith, ints)

-- a cost by allocations by rising bidder
pub small_cost : (lots : Lots) (book : Book) (first : List Choice) (group : List ℕ) (without : List Choice) → IsLots lots → IsBook lots book
    → HasRisingBidders first → HasRisingBidders without → cost lots book first group without ≤ℤ pos (2 ^ 61)
small_cost lots book first group without l b r s =
    let part = of_group book group first in
    let amounts = small_amounts lots book first b r in
    small_difference (total lots book without) (total lots book first) (amounts_of_group book group first) (small_total lots book without l b s) (omega arith)

small_abs : (z : ℤ) → pos 0 ≤ℤ z → z ≤ℤ pos (2 ^ 64) → unsigned_abs z ≤ 2 ^ 64
small_abs (pos n) low high = omega (arith, ints)
small_abs (negsuc n) low high = absurd (omega (arith, ints))

-- the greater of a cost and a reserve
pub small_greater : (cost : ℤ) (reserve : ℕ) → cost ≤ℤ pos (2 ^ 61) → reserve < 2 ^ 64 → unsigned_abs (int_max cost (pos reserve)) ≤ 2 ^ 64
small_greater cost reserve high small = small_abs (int_max cost (pos reserve)) (omega (arith, ints, clamps)) (omega (arith, ints, clamps))
