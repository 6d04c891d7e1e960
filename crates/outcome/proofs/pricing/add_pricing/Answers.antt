use Rattle.std.proofs.Common.{Some}
use Rattle.bid_desk.specs.Sale.{sale_of}
use Rattle.byte_sinks.specs.Adds.{Adds}
use Rattle.byte_sinks.proofs.AddingFacts.{Adds-then}
use Rattle.outcome.specs.Pricing.{pricing_text}
use Rattle.outcome.proofs.pricing.add_pricing.Goals as goal

pub returns-in-Some : goal.returns-in-Some
returns-in-Some g c =
    let prices = rw c.choices-choices.ensures.choices at c.add_prices.ensures in
    let sum = rw c.choices-choices.ensures.choices at c.add_sum.ensures in
    let rule = rw c.by_rule.ensures at c.add_rule.ensures in
    let added : Adds g.S.Sink.state c.args.writer.now c.add_rule.new.writer
    (pricing_text (sale_of c.args.book.now) c.args.first.now (Some c.in-Some.pricing)) =
    Adds-then c.add.ensures (Adds-then prices (Adds-then sum rule)) in
    rw c.in-Some.is added
