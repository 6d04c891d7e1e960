-- What the rules of an auction say, and their limits.
use Rattle.std.specs.Prelude.{Bool, List, nat_lt}
use Rattle.std.specs.List.{list_any}
use Rattle.auction_terms.specs.Packages.{WeightedCap}
use Rattle.auction_terms.specs.declared.rules.Category.{Category}
use Rattle.auction_terms.specs.declared.rules.Pool.{Pool}

-- the cap of a pool, without its name
abbrev pub cap_of : Pool → WeightedCap
cap_of pool = record { cap = pool.cap; weights = pool.weights }

-- a lot of some category has a value where it is left
abbrev pub has_values : List Category → Bool
has_values categories = list_any (λ category. nat_lt 0 category.value) categories
