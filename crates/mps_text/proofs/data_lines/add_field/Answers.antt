use Rattle.byte_sinks.proofs.AddingFacts.{Adds-then}
use Rattle.mps_text.proofs.data_lines.add_field.Goals as goal

pub returns : goal.returns
returns g c = Adds-then c.add.ensures c.add-2.ensures
