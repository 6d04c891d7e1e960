-- Weights on groups and on the winners' reserves.
use Rattle.std.specs.Prelude.{◌+◌, ℕ, List, [], ◌∷◌, cond, sum_by}
use Rattle.auction_terms.specs.declared.bids.Choice.{Choice}
use Rattle.auction_terms.specs.Groups.{has}
use Rattle.outcome.specs.Pricing.{price_in}

-- a group, an allocation without it, and a weight
pub record Weighted : Type 0 where
  pub weight : ℕ
  pub group : List ℕ
  pub without : List Choice

-- weights of groups and each bidder's own, which is on its reserve; each is meant as divided by the scale
pub record Weights : Type 0 where
  pub scale : ℕ
  pub groups : List Weighted
  pub own : ℕ → ℕ

-- the weights of the groups that a bidder is in
abbrev pub weight_on : List Weighted → ℕ → ℕ
weight_on weights bidder = sum_by (λ w. cond (has w.group bidder) w.weight 0) weights

-- the weights on a winner: those of the groups that it is in, and its own
abbrev pub weights_on : Weights → Choice → ℕ
weights_on w c = weight_on w.groups c.bidder + w.own c.bidder

-- each group with the allocation without it and its weight, as far as there is one of each
abbrev pub weighted : List (List ℕ) → List (List Choice) → List ℕ → List Weighted
weighted (group ∷ groups) (without ∷ won) (weight ∷ weights) = record { weight = weight; group = group; without = without } ∷ weighted groups won weights
weighted _ _ _ = []

-- weights of groups in the order in which they are listed, and of bidders, bidder 1's first
abbrev pub listed_weights : List (List ℕ) → List (List Choice) → ℕ → List ℕ → List ℕ → Weights
listed_weights groups won scale weights own = record { scale = scale; groups = weighted groups won weights; own = price_in own }
