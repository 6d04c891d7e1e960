-- What the records of the rules after the header describe, one kind beside the other, and the rules that they make.
use Rattle.std.specs.Prelude.{◌≤◌, ℕ, List, ◌++◌, length, map, find, All}
use Rattle.std.specs.Option.{option_map_or}
use Rattle.auction_terms.specs.Terms.{AllDiffer, IsBidder, IsCategory}
use Rattle.auction_terms.specs.declared.draft.Member.{Member}
use Rattle.auction_terms.specs.declared.draft.NamedCap.{NamedCap}
use Rattle.auction_terms.specs.declared.limits.TheConstants.{GREATEST_AMOUNT, GREATEST_WEIGHT, MOST_BIDDERS, MOST_CATEGORIES, MOST_POOLS}
use Rattle.auction_terms.specs.Entries.{Entries, is_member_of}
use Rattle.auction_terms.specs.declared.rules.Bidder.{Bidder}
use Rattle.auction_terms.specs.declared.rules.Category.{Category}

-- the entries that consist of these categories, bidders, pools and members of pools
abbrev pub entries : List Category → List Bidder → List NamedCap → List Member → Entries
entries categories bidders pools members = record { categories = categories; bidders = bidders; pools = pools; members = members }

-- what some records describe, and then others
abbrev pub both : Entries → Entries → Entries
both e f = entries (e.categories ++ f.categories) (e.bidders ++ f.bidders) (e.pools ++ f.pools) (e.members ++ f.members)

-- a pool without its weights, within the limits
pub record IsNamedCap (pool : NamedCap) : Type 0 where
  pub cap : pool.cap ≤ GREATEST_AMOUNT

-- a member of a pool within its limits
pub record IsMember (member : Member) : Type 0 where
  pub some_weight : 1 ≤ member.weight
  pub weight : member.weight ≤ GREATEST_WEIGHT

-- entries within their limits, as far as they were read
pub record AreEntriesWithinLimits (e : Entries) : Type 0 where
  pub category_count : length e.categories ≤ MOST_CATEGORIES
  pub bidder_count : length e.bidders ≤ MOST_BIDDERS
  pub pool_count : length e.pools ≤ MOST_POOLS
  pub each_category : All IsCategory e.categories
  pub each_bidder : All IsBidder e.bidders
  pub each_pool : All IsNamedCap e.pools
  pub each_member : All IsMember e.members
  pub category_names : AllDiffer (map (λ category. category.name) e.categories)
  pub bidder_names : AllDiffer (map (λ bidder. bidder.name) e.bidders)
  pub pool_names : AllDiffer (map (λ pool. pool.name) e.pools)

-- the weight of a category in a pool, 0 where it is no member
abbrev pub weight_in : List Member → List ℕ → List ℕ → ℕ
weight_in members pool category = option_map_or (λ member. member.weight) (find (is_member_of pool category) members) 0
