-- Packages as lists of quantities, their order, and what is for sale.
use Rattle.std.specs.Prelude.{◌≡◌, ◌≤◌, ◌+◌, ◌*◌, ◌-◌, ℕ, Bool, true, ◌&&◌, nat_le, List, [], ◌∷◌, length, slice_index_or, All}
use Rattle.std.specs.List.{list_all}
use Rattle.auction_terms.specs.declared.limits.TheConstants.{GREATEST_QUANTITY, MOST_CATEGORIES}

-- a quantity for each category, within the limits
pub record IsPackage (quantities : List ℕ) : Type 0 where
  pub some : 1 ≤ length quantities
  pub few : length quantities ≤ MOST_CATEGORIES
  pub each : All (λ quantity. quantity ≤ GREATEST_QUANTITY) quantities

-- whether one package has at most the other's quantity in every category
abbrev pub is_within : List ℕ → List ℕ → Bool
is_within [] q = true
is_within (x ∷ p) [] = nat_le x 0 && is_within p []
is_within (x ∷ p) (y ∷ q) = nat_le x y && is_within p q

-- the sum of the quantities
abbrev pub size : List ℕ → ℕ
size [] = 0
size (x ∷ p) = x + size p

-- the sum of the quantities, each times its weight
abbrev pub weighed : List ℕ → List ℕ → ℕ
weighed [] q = 0
weighed (w ∷ weights) [] = 0
weighed (w ∷ weights) (x ∷ q) = w * x + weighed weights q

-- a cap on the weighed quantities of all categories
pub record WeightedCap : Type 0 where
  pub cap : ℕ
  pub weights : List ℕ

-- what is for sale
pub record Lots : Type 0 where
  -- how many lots each category has
  pub supply : List ℕ
  -- what a lot of each category is worth where it is left
  pub values : List ℕ
  -- the caps of the pools
  pub pools : List WeightedCap

-- a pool by its place
abbrev pub pool_at : Lots → ℕ → WeightedCap
pool_at lots p = slice_index_or lots.pools p (record { cap = 0; weights = [] })

-- quantities, of one bid or of several together, that the lots suffice for: no category is above its supply, and no pool above its cap
abbrev pub fits : Lots → List ℕ → Bool
fits lots quantities = is_within quantities lots.supply && list_all (λ pool. nat_le (weighed pool.weights quantities) pool.cap) lots.pools

-- what quantities are worth where they are left
abbrev pub worth : Lots → List ℕ → ℕ
worth lots quantities = weighed lots.values quantities

-- what all lots are worth
abbrev pub worth_of_all : Lots → ℕ
worth_of_all lots = worth lots lots.supply

-- the lots that these quantities leave
abbrev pub left : List ℕ → List ℕ → List ℕ
left [] q = []
left (n ∷ supply) [] = n ∷ left supply []
left (n ∷ supply) (x ∷ q) = (n - x) ∷ left supply q

-- a smaller package loads no pool more
abbrev pub SmallerLoadsNoMore : Type 0
SmallerLoadsNoMore = (pool : WeightedCap) (p q : List ℕ) → is_within p q ≡ true → weighed pool.weights p ≤ weighed pool.weights q

-- a package that is at most another one in every category fits if the other one fits
abbrev pub SmallerFits : Type 0
SmallerFits = (lots : Lots) (p q : List ℕ) → is_within p q ≡ true → fits lots q ≡ true → fits lots p ≡ true
