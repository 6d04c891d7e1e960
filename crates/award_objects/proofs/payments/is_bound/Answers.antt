use Rattle.std.proofs.Common.{◌∙◌, ℕ, ℤ, List, ap, ap₂, pos, ◌*ℤ◌, ◌≡◌, rules}
use Rattle.std.specs.Ordering.{int_eq}
use Rattle.auction_terms.specs.declared.bids.Choice.{Choice}
use Rattle.outcome.specs.Pricing.{price_in}
use Rattle.prices.specs.Prices.{paid_by_group}
use mir.Syntax.{w128}
use mir.Val.{of_z, to_z}
use Rattle.award_objects.proofs.payments.is_bound.Goals as goal

pub returns : goal.returns
returns c =
    let group = c.args.group.now in
    let paid = c.paid_in_parts_by-paid.ensures.sum ∙ ap₂ (λ (prices : List ℕ) (a : List Choice). paid_by_group (price_in prices) group a)
    c.prices.ensures c.choices.ensures.choices in
    let whole : to_z w128 (of_z w128 c.cost.result) ≡ c.cost.result = search rules in
    c.is_cost.ensures ∙ ap (λ (n : ℕ). int_eq (pos n *ℤ to_z w128 (of_z w128 c.cost.result)) (pos c.paid_in_parts_by-paid.result)) c.parts.ensures.parts
    ∙ ap₂ (λ (z : ℤ) (n : ℕ). int_eq (pos c.args.pricing.now.parts *ℤ z) (pos n)) (whole ∙ c.cost.ensures) paid
