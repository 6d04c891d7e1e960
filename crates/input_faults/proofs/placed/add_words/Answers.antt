use Rattle.byte_sinks.proofs.AddingFacts.{Adds-then}
use Rattle.input_faults.proofs.placed.add_words.Goals as goal

pub returns : goal.returns
returns g c = Adds-then c.add_wording.ensures (Adds-then c.add_wording-2.ensures c.add.ensures)
