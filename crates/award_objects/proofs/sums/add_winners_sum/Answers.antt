use Rattle.std.proofs.Common.{◌≡◌, ◌∷◌, [], ap, map}
use Rattle.byte_sinks.proofs.AddingFacts.{Adds-to}
use Rattle.byte_sinks.specs.Objects.{member_seen, object_text}
use Rattle.bid_desk.specs.Sale.{sale_of}
use Rattle.award_objects.specs.Objects.{winners_sum}
use Rattle.award_objects.proofs.sums.add_winners_sum.Goals as goal

pub returns : goal.returns
returns g c =
    let same : map member_seen (c.text.result ∷ c.number.result ∷ c.number-2.result ∷ [])
    ≡ winners_sum c.args.book.now.rules (sale_of c.args.book.now) c.args.choices.now = cc in
    Adds-to c.add_object.ensures (ap object_text same)
