use Rattle.std.proofs.Common.{ℕ, List, ap}
use Rattle.auction_terms.specs.declared.bids.Choice.{Choice}
use Rattle.bid_desk.specs.Sale.{sale_of}
use Rattle.byte_sinks.proofs.AddingFacts.{Adds-then, Adds-to}
use Rattle.byte_sinks.specs.Objects.{object_text}
use Rattle.award_objects.specs.Objects.{lots_sum, winners_sum}
use Rattle.award_objects.proofs.sums.add_sums.Goals as goal

pub returns : goal.returns
returns g c =
    let book = c.args.outcome.now.book.now in
    let winners = Adds-to c.add_winners_sum.ensures (ap (λ (a : List Choice). object_text (winners_sum book.rules (sale_of book) a)) c.choices.ensures.choices) in
    let lots = Adds-to c.add_lots_sum.ensures (ap (λ (sold : List ℕ). object_text (lots_sum book.rules sold)) c.requires.sold) in
    Adds-then winners (Adds-then lots c.add_prices_sum_if.ensures)
