use Rattle.byte_sinks.proofs.AddingFacts.{Adds-then, Adds-to}
use Rattle.byte_sinks.proofs.ObjectFacts.{parted-map}
use Rattle.byte_sinks.specs.Objects.{member_seen, member_text}
use Rattle.byte_sinks.proofs.objects.add_object.Goals as goal

pub returns : goal.returns
returns g c =
    Adds-then c.add.ensures (Adds-then (Adds-to c.add_members.ensures (parted-map member_seen member_text c.args.members.now)) c.add-2.ensures)
