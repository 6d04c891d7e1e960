use Rattle.std.proofs.Common.{◌∙◌, ap₂, sym}
use Rattle.std.specs.Prelude.{Bool, ◌&&◌}
use Rattle.std.proofs.lemmas.List.Folds.{list_all_at, list_all_more}
use Rattle.auction_terms.specs.declared.bids.Choice.{Choice}
use Rattle.outcome.specs.Pricing.{price_in}
use Rattle.prices.specs.inside.Weighing.{even_by}
use Rattle.prices.proofs.rule.are_even.Goals as goal

pub returns-then-not-is_even : goal.returns-then-not-is_even
returns-then-not-is_even c =
    sym (list_all_at (λ (x : Choice). even_by c.args.groups.now c.args.weights.now.groups.now (price_in c.args.weights.now.own.now)
    c.args.weights.now.scale x.bidder) c.args.choices.now c.loop-choice.choice-index (record { bidder = 0; bid = 0 })
    c.loop-choice-test.true (sym c.is_even.ensures ∙ c.if-not-is_even.true))

pub loop-choice-preserved : goal.loop-choice-preserved
loop-choice-preserved c =
    list_all_more (λ (x : Choice). even_by c.args.groups.now c.args.weights.now.groups.now (price_in c.args.weights.now.own.now)
    c.args.weights.now.scale x.bidder) c.args.choices.now c.loop-choice.choice-index (record { bidder = 0; bid = 0 })
    c.loop-choice-test.true
    ∙ ap₂ (λ (a b : Bool). a && b) c.loop-choice.invariant (sym c.is_even.ensures ∙ c.if-not-is_even.false)
