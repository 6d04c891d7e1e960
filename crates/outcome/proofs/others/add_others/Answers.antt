use Rattle.byte_sinks.proofs.AddingFacts.{Adds-then}
use Rattle.outcome.proofs.others.add_others.Goals as goal

pub returns : goal.returns
returns g c = Adds-then (rw c.awards-awards.ensures at c.add_ties.ensures) (rw (c.last_line.ensures, c.awards-awards.ensures, c.further.ensures) at c.add.ensures)
