use Rattle.byte_sinks.proofs.AddingFacts.{Adds-then}
use Rattle.input_faults.proofs.detail.add_at.Goals as goal

pub returns-then-at-eq0 : goal.returns-then-at-eq0
returns-then-at-eq0 g c = rw c.if-at-eq0.true (Adds-then c.add.ensures c.add_cause.ensures)
