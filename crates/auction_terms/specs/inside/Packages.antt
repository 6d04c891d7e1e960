-- Packages as lists of quantities, their order, and what is for sale.
use Rattle.std.specs.Prelude.{ℕ, Bool, nat_le, List}
use Rattle.auction_terms.specs.Packages.{WeightedCap, weighed}

-- the quantities load a pool no more than its cap
abbrev pub is_within_cap : List ℕ → WeightedCap → Bool
is_within_cap quantities pool = nat_le (weighed pool.weights quantities) pool.cap
