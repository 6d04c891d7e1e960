use Rattle.std.proofs.Common.{◌≡◌, ◌∷◌, [], ap, map}
use Rattle.byte_sinks.proofs.AddingFacts.{Adds-to}
use Rattle.byte_sinks.specs.Objects.{member_seen, object_text}
use Rattle.award_objects.specs.Objects.{lots_sum}
use Rattle.award_objects.proofs.sums.add_lots_sum.Goals as goal

pub returns : goal.returns
returns g c =
    let same : map member_seen (c.text.result ∷ c.number.result ∷ c.number-2.result ∷ c.number-3.result ∷ c.number-4.result ∷ [])
    ≡ lots_sum c.args.book.now.rules c.args.sold.now = cc in
    Adds-to c.add_object.ensures (ap object_text same)
