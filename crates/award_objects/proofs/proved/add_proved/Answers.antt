use Rattle.std.proofs.Common.{◌≡◌, ◌∷◌, [], ap, codes, map}
use Rattle.byte_sinks.proofs.AddingFacts.{Adds-to}
use Rattle.byte_sinks.specs.Objects.{Member, member_seen, object_text, scalar_seen}
use Rattle.byte_sinks.specs.Objects.Value.{Many}
use Rattle.award_objects.proofs.proved.add_proved.Goals as goal

pub returns : goal.returns
returns g c =
    let proved : Member = record { name = codes "proved"; value = Many (map scalar_seen c.args.proved.now) } in
    let same : map member_seen (c.list.result ∷ []) ≡ proved ∷ [] = cc in
    Adds-to c.add_object.ensures (ap object_text same)
