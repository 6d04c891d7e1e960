-- What a form says: a bidder and its bids; and when bids meet rules.
use Rattle.std.specs.Prelude.{◌≢◌, ◌≤◌, ◌-◌, ◌%◌, ◌==◌, ◌&&◌, Bool, not, ℕ, List, Option, All, AllPairs, IsTrue, length, map, nat_eq, nat_le, slice_index}
use Rattle.std.specs.List.{list_all, position_from}
use Rattle.std.specs.Cmp.Lexicographic.{pointwise}
use Rattle.auction_terms.specs.Packages.{IsPackage, weighed}
use Rattle.auction_terms.specs.RulesText.{is_between}
use Rattle.auction_terms.specs.Terms.{Terms}
use Rattle.auction_terms.specs.declared.bids.Bid.{Bid}
use Rattle.auction_terms.specs.declared.rules.Category.{Category}
use Rattle.auction_terms.specs.declared.limits.TheConstants.{GREATEST_AMOUNT, GREATEST_QUANTITY, MOST_BIDDERS, MOST_BIDS}

-- the number of a bidder, and its bids
pub record Offers : Type 0 where
  pub bidder : ℕ
  pub bids : List Bid

-- the number, from 1, of the first of these bids that has the package
abbrev pub number_of_package : List ℕ → List Bid → Option ℕ
number_of_package lots bids = position_from (λ bid. pointwise nat_eq lots bid.package) 1 bids

-- the eligibility points of a package
abbrev pub points_of : List Category → List ℕ → ℕ
points_of categories lots = weighed (map (λ category. category.points) categories) lots

-- the least price of a package
abbrev pub reserve_of : List Category → List ℕ → ℕ
reserve_of categories lots = weighed (map (λ category. category.reserve) categories) lots

-- the eligibility of a bidder
abbrev pub eligibility_of : Terms → ℕ → ℕ
eligibility_of t bidder = slice_index (map (λ bidder. bidder.eligibility) t.bidders) (bidder - 1)

-- what the rules ask of one bid of a bidder with this eligibility
abbrev pub is_bid_under : Terms → ℕ → Bid → Bool
is_bid_under t eligibility bid =
    (length bid.package == length t.categories)
    && is_between 1 GREATEST_AMOUNT bid.amount
    && (bid.amount % t.step == 0)
    && list_all (λ quantity. nat_le quantity GREATEST_QUANTITY) bid.package
    && not (list_all (λ quantity. quantity == 0) bid.package)
    && nat_le (points_of t.categories bid.package) eligibility
    && nat_le (reserve_of t.categories bid.package) bid.amount

-- the packages of no two bids are the same
abbrev pub PackagesDiffer : List Bid → Type 0
PackagesDiffer bids = AllPairs (λ x y. x.package ≢ y.package) bids

-- a form meets the rules
pub record Meets (t : Terms) (o : Offers) : Type 0 where
  pub some_bidder : 1 ≤ o.bidder
  pub known_bidder : o.bidder ≤ length t.bidders
  pub few : length o.bids ≤ MOST_BIDS
  pub each : All (λ bid. IsTrue (is_bid_under t (eligibility_of t o.bidder) bid)) o.bids
  pub differ : PackagesDiffer o.bids

-- a bid with its package and its amount within the limits
pub record IsBidWithinLimits (bid : Bid) : Type 0 where
  pub quantities : IsPackage bid.package
  pub some_amount : 1 ≤ bid.amount
  pub amount : bid.amount ≤ GREATEST_AMOUNT

-- what a form keeps under any rules
pub record IsForm (o : Offers) : Type 0 where
  pub some_bidder : 1 ≤ o.bidder
  pub bidders : o.bidder ≤ MOST_BIDDERS
  pub few : length o.bids ≤ MOST_BIDS
  pub each : All IsBidWithinLimits o.bids
  pub differ : PackagesDiffer o.bids
