use Rattle.byte_sinks.proofs.AddingFacts.{Adds-then}
use Rattle.byte_sinks.proofs.json.add_member_name.Goals as goal

pub returns : goal.returns
returns g c = Adds-then c.add.ensures (Adds-then c.add-2.ensures (Adds-then c.add-3.ensures c.add-4.ensures))
