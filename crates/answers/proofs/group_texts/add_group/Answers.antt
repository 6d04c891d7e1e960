use Rattle.byte_sinks.proofs.AddingFacts.{Adds-then}
use Rattle.answers.proofs.group_texts.add_group.Goals as goal

pub returns : goal.returns
returns g c = Adds-then c.add_line.ensures c.add_program.ensures
