use Rattle.byte_sinks.proofs.AddingFacts.{Adds-then}
use Rattle.presolve.proofs.reason_objects.add_replaced_object.Goals as goal

pub returns : goal.returns
returns g c =
    Adds-then c.add_bidder.ensures
    (Adds-then c.add_number_member.ensures (Adds-then c.add_text_member.ensures (Adds-then c.add_number_member-2.ensures c.add.ensures)))
