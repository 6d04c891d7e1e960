use Rattle.std.proofs.Common.{◌∙◌, ap, ap₂}
use Rattle.auction_terms.specs.Judged.{kept_fault}
use Rattle.byte_sinks.proofs.AddingFacts.{Adds-then, Adds-to}
use Rattle.auction_input.specs.Places.{spot_of}
use Rattle.input_faults.specs.FaultObjects.{object_at}
use Rattle.input_faults.proofs.objects.add_object.Goals as goal

pub returns : goal.returns
returns g c =
    let at = kept_fault c.args.at.now in
    let spot = c.spot_of-spot.ensures ∙ ap (spot_of c.args.places.now) c.refusal.ensures in
    Adds-to (Adds-then c.in_ok-add_file.ensures (Adds-then c.add_part.ensures (Adds-then c.add_named.ensures
    (Adds-then c.in_ok-add_other.ensures (Adds-then c.in_ok-add_place.ensures (Adds-then c.in_ok-add_cause_member.ensures c.add.ensures))))))
    (ap₂ (λ texts spot. object_at texts spot at) c.texts-texts.ensures spot)
