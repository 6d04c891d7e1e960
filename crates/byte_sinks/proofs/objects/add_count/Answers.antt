use Rattle.byte_sinks.proofs.AddingFacts.{Adds-then}
use Rattle.byte_sinks.proofs.objects.add_count.Goals as goal

pub returns : goal.returns
returns g c = Adds-then c.add_quoted.ensures (Adds-then c.add.ensures c.add_number.ensures)
