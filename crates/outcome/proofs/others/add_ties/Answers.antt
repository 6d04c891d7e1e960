use Rattle.std.proofs.Common.{◌<◌, ◌++◌, ◌∙◌, List, ap, length, take, arith}
use Rattle.std.specs.Prelude.{flat_map}
use Rattle.auction_terms.specs.declared.bids.Choice.{Choice}
use Rattle.byte_sinks.proofs.AddingFacts.{Adds-then, Adds-to}
use Rattle.byte_sinks.proofs.KnownByteFacts.{flat_map-next_or}
use Rattle.bid_desk.specs.Sale.{sale_of}
use Rattle.outcome.specs.Others.{tie_text}
use Rattle.outcome.proofs.others.add_ties.Goals as goal

pub loop-award-preserved : goal.loop-award-preserved
loop-award-preserved g c =
    let at = c.loop-award.award-index in
    let all = c.args.awards.now in
    let text = tie_text (sale_of c.args.book.now) in
    let lt : at < length all = omega arith in
    Adds-to (Adds-then c.loop-award.invariant (Adds-then c.add.ensures (rw c.choices.ensures.choices at c.add_allocation.ensures)))
    (ap (λ (a : List Choice). flat_map text (take at all) ++ text a) c.award-item.is ∙ flat_map-next_or text all at c.award-item.result lt)
