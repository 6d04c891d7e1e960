use Rattle.std.proofs.Common.{◌∙◌, ◌∷◌, [], List, ap, codes, map}
use Rattle.byte_sinks.proofs.AddingFacts.{Adds-then, Adds-to}
use Rattle.byte_sinks.specs.Objects.{Scalar, object_text, scalar_seen}
use Rattle.byte_sinks.specs.Objects.Value.{Many}
use Rattle.award_objects.proofs.objects.add_shown.Goals as goal

pub returns : goal.returns
returns g c =
    let proved = ap (map scalar_seen) c.as_slice.ensures.value ∙ c.proved_of-proved.ensures in
    Adds-then c.add_outcome.ensures (Adds-to c.add_proved.ensures
    (ap (λ (list : List Scalar). object_text (record { name = codes "proved"; value = Many list } ∷ [])) proved))
