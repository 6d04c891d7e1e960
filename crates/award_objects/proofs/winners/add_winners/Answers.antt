use Rattle.std.proofs.Common.{◌<◌, length, arith}
use Rattle.byte_sinks.proofs.AddingFacts.{Adds-then, Adds-to}
use Rattle.byte_sinks.proofs.KnownByteFacts.{flat_map-next_or}
use Rattle.bid_desk.specs.Sale.{sale_of}
use Rattle.byte_sinks.specs.Objects.{named_number, object_text}
use Rattle.award_objects.specs.Objects.{winner_members}
use Rattle.award_objects.proofs.winners.add_winners.Goals as goal

pub loop-choice-preserved : goal.loop-choice-preserved
loop-choice-preserved g c =
    let at = c.loop-choice.choice-index in
    let all = c.args.choices.now in
    let lt : at < length all = omega arith in
    Adds-to (Adds-then c.loop-choice.invariant c.add_winner.ensures)
    (flat_map-next_or (λ it. object_text (winner_members c.args.book.now.rules (sale_of c.args.book.now) (named_number c.args.of.now c.args.k) it)) all at
    (record { bidder = 0; bid = 0 }) lt)
