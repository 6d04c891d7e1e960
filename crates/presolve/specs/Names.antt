-- The names that lines about bids print.
use Rattle.std.specs.Prelude.{ℕ, List, [], slice_get}
use Rattle.std.specs.Option.{option_map_or}
use Rattle.auction_terms.specs.Terms.{Terms}

-- the name of a category by its place; no bytes if there is none
abbrev pub category_name : Terms → ℕ → List ℕ
category_name t place = option_map_or (λ category. category.name) (slice_get t.categories place) []

-- the name of a pool by its place; no bytes if there is none
abbrev pub pool_name : Terms → ℕ → List ℕ
pool_name t place = option_map_or (λ pool. pool.name) (slice_get t.pools place) []
