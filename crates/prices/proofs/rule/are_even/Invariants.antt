use Rattle.std.proofs.Common.{◌≡◌, take, true}
use Rattle.std.specs.List.{list_all}
use Rattle.outcome.specs.Pricing.{price_in}
use Rattle.prices.specs.inside.Weighing.{even_by}
use Rattle.prices.proofs.rule.are_even.Given as goal

abbrev pub invariant-loop-choice : goal.invariant-loop-choice
invariant-loop-choice l =
    list_all (λ c. even_by l.groups l.weights.groups.now (price_in l.weights.own.now) l.weights.scale c.bidder) (take l.choice-index l.choices) ≡ true
