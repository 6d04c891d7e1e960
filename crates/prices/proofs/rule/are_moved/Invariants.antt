use Rattle.std.proofs.Common.{◌≡◌, take, true}
use Rattle.std.specs.List.{list_all}
use Rattle.outcome.specs.Pricing.{price_in}
use Rattle.prices.specs.inside.Weighing.{moved_by}
use Rattle.prices.proofs.rule.are_moved.Given as goal

abbrev pub invariant-loop-choice : goal.invariant-loop-choice
invariant-loop-choice l =
    list_all (λ c. moved_by l.groups l.rule.nearest.groups.now (price_in l.rule.nearest.own.now) l.rule.nearest.scale (price_in l.alone) l.payments.parts
    (price_in l.payments.prices.now) l.rule.push c.bidder) (take l.choice-index l.choices) ≡ true
