use Rattle.std.proofs.Common.{◌≡◌, ◌∷◌, [], ap, map}
use Rattle.byte_sinks.proofs.AddingFacts.{Adds-to}
use Rattle.byte_sinks.specs.Objects.{member_seen, named_number, object_text}
use Rattle.bid_desk.specs.Sale.{sale_of}
use Rattle.award_objects.specs.Objects.{winner_members}
use Rattle.award_objects.proofs.winners.add_winner_of_lots.Goals as goal

pub returns : goal.returns
returns g c =
    let same : map member_seen (c.number.result ∷ c.text.result ∷ c.number-2.result ∷ c.number-3.result ∷ c.counts.result ∷ c.number-4.result ∷ [])
    ≡ winner_members c.args.book.now.rules (sale_of c.args.book.now) (named_number c.args.of.now c.args.k) c.args.choice = cc in
    Adds-to c.add_object.ensures (ap object_text same)
