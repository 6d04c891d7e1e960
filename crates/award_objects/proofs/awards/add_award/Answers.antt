use Rattle.std.proofs.Common.{◌≡◌, ◌∷◌, [], ap, map}
use Rattle.byte_sinks.proofs.AddingFacts.{Adds-to}
use Rattle.byte_sinks.specs.Objects.{member_seen, object_text}
use Rattle.std.specs.List.{zip}
use Rattle.bid_desk.specs.Sale.{sale_of}
use Rattle.award_objects.specs.Objects.{award_members}
use Rattle.award_objects.proofs.awards.add_award.Goals as goal

pub returns : goal.returns
returns g c =
    let same : map member_seen (c.number.result ∷ c.number-2.result ∷ c.list.result ∷ [])
    ≡ award_members (sale_of c.args.outcome.now.book.now) (zip c.args.outcome.now.groups.now c.args.outcome.now.won.now) c.args.k c.args.award.now = cc in
    Adds-to c.add_object.ensures (ap object_text same)
