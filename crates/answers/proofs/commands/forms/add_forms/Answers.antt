use Rattle.byte_sinks.proofs.AddingFacts.{Adds-then}
use Rattle.answers.proofs.commands.forms.add_forms.Goals as goal

pub returns : goal.returns
returns g c = Adds-then c.add_rules.ensures (rw c.bidders.ensures.value at c.add_bidders.ensures)
