-- The limits within which books and lists of offers stand.
use Rattle.std.specs.Prelude.{◌≡◌, ℕ, ◌<◌, ◌≤◌, ◌⊎◌, ⊤, Bool, List, [], ◌∷◌, length}
use Rattle.std.specs.List.{AllByRecursion}
use Rattle.auction_terms.specs.declared.bids.Bid.{Bid}
use Rattle.auction_terms.specs.Packages.{Lots, WeightedCap}
use Rattle.auction_terms.specs.Allocations.{Book}
use Rattle.auction_terms.specs.Keeping.{Offer, kept_of}
use Rattle.auction_terms.specs.declared.limits.TheConstants.{GREATEST_AMOUNT, GREATEST_QUANTITY, GREATEST_VALUE}
use Rattle.auction_terms.specs.declared.limits.TheConstants.{GREATEST_WEIGHT, MOST_BIDDERS, MOST_BIDS, MOST_CATEGORIES}
use Rattle.auction_terms.specs.declared.limits.TheConstants.{MOST_POOLS}

-- a cap and its weights within the limits; the weight of a category that is no member is 0
pub record IsWeightedCap (pool : WeightedCap) : Type 0 where
  pub cap : pool.cap ≤ GREATEST_AMOUNT
  pub weights : AllByRecursion (λ n. n ≤ GREATEST_WEIGHT) pool.weights

-- categories with their supplies and values, and pools, within the limits
pub record IsLots (lots : Lots) : Type 0 where
  pub categories : length lots.supply ≤ MOST_CATEGORIES
  pub supplies : AllByRecursion (λ n. n ≤ GREATEST_QUANTITY) lots.supply
  pub values : AllByRecursion (λ n. n ≤ GREATEST_VALUE) lots.values
  pub few_pools : length lots.pools ≤ MOST_POOLS
  pub pools : AllByRecursion IsWeightedCap lots.pools

-- a package with a quantity for each category, and an amount, within the limits
pub record IsBid (lots : Lots) (x : Bid) : Type 0 where
  pub sized : length x.package ≡ length lots.supply
  pub quantities : AllByRecursion (λ n. n ≤ GREATEST_QUANTITY) x.package
  pub amount : x.amount ≤ GREATEST_AMOUNT

-- a form for each of so many bidders, of so many bids
pub record IsBook (lots : Lots) (book : Book) : Type 0 where
  pub bidders : length book ≤ MOST_BIDDERS
  pub forms : AllByRecursion (λ form. length form ≤ MOST_BIDS) book
  pub bids : AllByRecursion (λ form. AllByRecursion (IsBid lots) form) book

-- a bid within the limits, with its bidder and its number in the form
pub record IsOffer (lots : Lots) (o : Offer) : Type 0 where
  pub bidder_from : 1 ≤ o.bidder
  pub bidder_to : o.bidder ≤ MOST_BIDDERS
  pub number_from : 1 ≤ o.number
  pub number_to : o.number ≤ MOST_BIDS
  pub bid : IsBid lots o.bid

-- one offer comes before another: by bidder, then by the number of the bid
abbrev pub IsBefore : Offer → Offer → Type 0
IsBefore o later = (o.bidder < later.bidder) ⊎ ((o.bidder ≡ later.bidder) × (o.number < later.number))

-- offers within the limits, by rising bidder, then bid
abbrev pub AreOffers : Lots → List Offer → Type 0
AreOffers lots [] = ⊤
AreOffers lots (o ∷ offers) = IsOffer lots o × AllByRecursion (IsBefore o) offers × AreOffers lots offers

-- the kept bids of a book within the limits
abbrev pub KeptAreOffers : Type 0
KeptAreOffers = (lots : Lots) (book : Book) (group : ℕ → Bool) → IsBook lots book → AreOffers lots (kept_of lots book group)
