use Rattle.byte_sinks.proofs.AddingFacts.{Adds-then}
use Rattle.byte_sinks.proofs.objects.add_quoted.Goals as goal

pub returns : goal.returns
returns g c = Adds-then c.add.ensures (Adds-then c.add_json_text.ensures c.add-2.ensures)
