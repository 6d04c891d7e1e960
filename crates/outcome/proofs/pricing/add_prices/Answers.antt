use Rattle.std.proofs.Common.{◌<◌, length, arith}
use Rattle.byte_sinks.proofs.AddingFacts.{Adds-then, Adds-to}
use Rattle.byte_sinks.proofs.KnownByteFacts.{flat_map-next_or}
use Rattle.bid_desk.specs.Sale.{sale_of}
use Rattle.outcome.specs.Pricing.{price_line}
use Rattle.outcome.proofs.pricing.add_prices.Goals as goal

pub loop-choice-preserved : goal.loop-choice-preserved
loop-choice-preserved g c =
    let at = c.loop-choice.choice-index in
    let all = c.args.choices.now in
    let lt : at < length all = omega arith in
    Adds-to (Adds-then c.loop-choice.invariant c.add_price.ensures)
    (flat_map-next_or (price_line (sale_of c.args.book.now) c.args.pricing.now) all at (record { bidder = 0; bid = 0 }) lt)
