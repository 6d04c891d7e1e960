use Rattle.byte_sinks.proofs.AddingFacts.{Adds-then}
use Rattle.answers.proofs.group_texts.add_line.Goals as goal

pub returns : goal.returns
returns g c = Adds-then c.add_number.ensures (rw c.numbers.ensures.numbers at c.add_names_line.ensures)
