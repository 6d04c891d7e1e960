use Rattle.std.proofs.Common.{◌≡◌, ◌∷◌, [], ap, map}
use Rattle.byte_sinks.proofs.AddingFacts.{Adds-to}
use Rattle.byte_sinks.specs.Objects.{member_seen, object_text}
use Rattle.award_objects.specs.Objects.{category_members}
use Rattle.award_objects.proofs.lots.add_category.Goals as goal

pub returns : goal.returns
returns g c =
    let same : map member_seen (c.text.result ∷ c.number.result ∷ c.number-2.result ∷ c.number-3.result ∷ c.number-4.result ∷ c.number-5.result ∷ c.number-6.result ∷ [])
    ≡ category_members (c.args.category.now, c.args.sold) = cc in
    Adds-to c.add_object.ensures (ap object_text same)
