use Rattle.byte_sinks.proofs.AddingFacts.{Adds-then}
use Rattle.input_faults.proofs.lines.add_count.Goals as goal

pub returns-in-Json : goal.returns-in-Json
returns-in-Json g c = rw c.in-Json.is (Adds-then c.add_number_member.ensures c.add.ensures)
