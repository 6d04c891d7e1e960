-- What the rules of an auction say, and their limits.
use Rattle.std.specs.Prelude.{◌≡◌, ◌≢◌, ◌≤◌, ℕ, List, length, map, sum_by, All, AllPairs}
use Rattle.auction_terms.specs.Packages.{Lots}
use Rattle.auction_terms.specs.declared.rules.Category.{Category}
use Rattle.auction_terms.specs.declared.rules.Bidder.{Bidder}
use Rattle.auction_terms.specs.declared.rules.Pool.{Pool}
use Rattle.auction_terms.specs.declared.limits.TheConstants.{GREATEST_AMOUNT, GREATEST_POINTS, GREATEST_QUANTITY}
use Rattle.auction_terms.specs.declared.limits.TheConstants.{GREATEST_VALUE, GREATEST_WEIGHT, MOST_BIDDERS, MOST_CATEGORIES}
use Rattle.auction_terms.specs.declared.limits.TheConstants.{MOST_POOLS, MOST_SESSIONS}

-- the rules of an auction: the step of which every amount is a multiple, the categories, the bidders and the pools
pub record Terms : Type 0 where
  pub step : ℕ
  pub categories : List Category
  pub bidders : List Bidder
  pub pools : List Pool

-- a category within its limits
pub record IsCategory (category : Category) : Type 0 where
  pub supply : category.supply ≤ GREATEST_QUANTITY
  pub reserve : category.reserve ≤ GREATEST_AMOUNT
  pub points : category.points ≤ GREATEST_POINTS
  pub value : category.value ≤ GREATEST_VALUE

-- a bidder within its limits
pub record IsBidder (bidder : Bidder) : Type 0 where
  pub eligibility : bidder.eligibility ≤ GREATEST_AMOUNT
  pub some_session : 1 ≤ bidder.sessions
  pub sessions : bidder.sessions ≤ MOST_SESSIONS

-- a pool within its limits
pub record IsPool (pool : Pool) : Type 0 where
  pub cap : pool.cap ≤ GREATEST_AMOUNT
  pub weights : All (λ weight. weight ≤ GREATEST_WEIGHT) pool.weights

-- no two of these names are the same
abbrev pub AllDiffer : List (List ℕ) → Type 0
AllDiffer names = AllPairs (λ a b. a ≢ b) names

-- the step, and categories, bidders and pools within their limits
pub record AreWithinLimits (t : Terms) : Type 0 where
  pub least_step : 1 ≤ t.step
  pub greatest_step : t.step ≤ GREATEST_AMOUNT
  pub category_count : length t.categories ≤ MOST_CATEGORIES
  pub bidder_count : length t.bidders ≤ MOST_BIDDERS
  pub each_category : All IsCategory t.categories
  pub each_bidder : All IsBidder t.bidders
  pub pool_count : length t.pools ≤ MOST_POOLS
  pub each_pool : All IsPool t.pools
  pub pool_names : AllDiffer (map (λ pool. pool.name) t.pools)
  pub category_names : AllDiffer (map (λ category. category.name) t.categories)
  pub bidder_names : AllDiffer (map (λ bidder. bidder.name) t.bidders)

-- the rules of an auction; each pool has a weight for each category
pub record AreTerms (t : Terms) : Type 0 where
  pub limits : AreWithinLimits t
  pub weights : All (λ pool. length pool.weights ≡ length t.categories) t.pools
  pub some_category : 1 ≤ length t.categories
  pub some_bidder : 1 ≤ length t.bidders

-- how many sessions the bidders have together
abbrev pub session_count : Terms → ℕ
session_count t = sum_by (λ bidder. bidder.sessions) t.bidders

-- what these rules have for sale
abbrev pub lots_in : Terms → Lots
lots_in t = record {
  supply = map (λ category. category.supply) t.categories;
  values = map (λ category. category.value) t.categories;
  pools = map (λ pool. record { cap = pool.cap; weights = pool.weights }) t.pools;
}
