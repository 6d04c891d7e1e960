-- What the code holds of prices and of a rule.
use Rattle.std.specs.Prelude.{ℕ, List}
use Rattle.auction_terms.specs.declared.bids.Choice.{Choice}
use Rattle.prices.specs.Rule.{Rule}
use Rattle.prices.specs.Weights.{Weights, listed_weights}
use Rattle.answers.specs.Pricing.{InParts}
use Rattle.answers.specs.declared.pricing.InParts as declared_prices
use Rattle.answers.specs.declared.pricing.AimWeights as declared_weights
use Rattle.answers.specs.declared.pricing.ReadRule as declared_rule

-- prices
abbrev pub in_parts_held : declared_prices.InParts → InParts
in_parts_held p = record { parts = p.parts; prices = p.prices.items }

-- weights, beside the groups and what is won without each
abbrev pub weights_held : List (List ℕ) → List (List Choice) → declared_weights.AimWeights → Weights
weights_held groups won w = listed_weights groups won w.scale w.groups.items w.own.items

-- a rule
abbrev pub rule_held : List (List ℕ) → List (List Choice) → declared_rule.ReadRule → Rule
rule_held groups won r = record { least = weights_held groups won r.least; nearest = weights_held groups won r.nearest; push = r.push }
