-- What the records of the rules after the header describe, one kind beside the other, and the rules that they make.
use Rattle.std.specs.Prelude.{Bool, ◌&&◌, ℕ, List, map, find}
use Rattle.std.specs.Option.{option_map_or}
use Rattle.std.specs.Str.{bytes_eq}
use Rattle.auction_terms.specs.Terms.{Terms}
use Rattle.auction_terms.specs.declared.draft.Member.{Member}
use Rattle.auction_terms.specs.declared.draft.NamedCap.{NamedCap}
use Rattle.auction_terms.specs.declared.rules.Bidder.{Bidder}
use Rattle.auction_terms.specs.declared.rules.Category.{Category}
use Rattle.auction_terms.specs.declared.rules.Pool.{Pool}

-- the categories, bidders, pools and members of pools that records of the rules describe
pub record Entries : Type 0 where
  pub categories : List Category
  pub bidders : List Bidder
  -- the pools without their weights
  pub pools : List NamedCap
  pub members : List Member

-- the member makes this category one of this pool
abbrev pub is_member_of : List ℕ → List ℕ → Member → Bool
is_member_of pool category member = bytes_eq member.pool pool && bytes_eq member.category category

-- the pool with the weights of all categories in it, 0 where one is no member
abbrev pub pool_with : List Category → List Member → NamedCap → Pool
pool_with categories members pool =
    let weight = λ (category : Category). option_map_or (λ member. member.weight) (find (is_member_of pool.name category.name) members) 0 in
    record { name = pool.name; cap = pool.cap; weights = map weight categories }

-- the rules that entries make
abbrev pub terms_of : ℕ → Entries → Terms
terms_of step e = record { step = step; categories = e.categories; bidders = e.bidders; pools = map (pool_with e.categories e.members) e.pools }
