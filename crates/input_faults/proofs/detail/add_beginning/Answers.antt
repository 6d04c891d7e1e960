use Rattle.byte_sinks.proofs.AddingFacts.{Adds-then}
use Rattle.input_faults.proofs.detail.add_beginning.Goals as goal

pub returns : goal.returns
returns g c = Adds-then c.add.ensures (Adds-then c.add_shown.ensures (Adds-then c.add-2.ensures c.add_cause.ensures))
