use Rattle.std.proofs.Common.{◌<◌, ◌∙◌, List, ap, arith, flat_map, length}
use Rattle.std.proofs.lemmas.List.{take_all}
use Rattle.byte_sinks.proofs.AddingFacts.{Adds-then, Adds-to}
use Rattle.byte_sinks.proofs.KnownByteFacts.{flat_map-next_or}
use Rattle.auction_terms.specs.declared.bids.Choice.{Choice}
use Rattle.bid_desk.specs.Sale.{sale_of}
use Rattle.byte_sinks.specs.Objects.{object_text}
use Rattle.award_objects.specs.Objects.{price_members}
use Rattle.award_objects.proofs.payments.add_each_price.Goals as goal

pub loop-choice-preserved : goal.loop-choice-preserved
loop-choice-preserved g c =
    let outcome = c.args.outcome.now in
    let at = c.loop-choice.choice-index in
    let all = c.choices-choices.result.now in
    let lt : at < length all = omega arith in
    Adds-to (Adds-then c.loop-choice.invariant c.add_price.ensures)
    (flat_map-next_or (λ it. object_text (price_members outcome.book.now.rules (sale_of outcome.book.now) outcome.groups.now outcome.won.now c.args.first.now
    c.args.pricing.now it)) all at (record { bidder = 0; bid = 0 }) lt)

pub returns : goal.returns
returns g c =
    let outcome = c.args.outcome.now in
    Adds-to c.loop-choice.invariant (ap (λ (all : List Choice). flat_map (λ it. object_text (price_members outcome.book.now.rules (sale_of outcome.book.now)
    outcome.groups.now outcome.won.now c.args.first.now c.args.pricing.now it)) all)
    (take_all c.loop-choice.choice-index c.choices-choices.result.now c.loop-choice-test.false ∙ c.choices-choices.ensures.choices))
