use Rattle.std.proofs.Common.{rules}
use Rattle.byte_sinks.proofs.AddingFacts.{Adds-then, Adds-to}
use Rattle.outcome.proofs.report_lines.add_group.Goals as goal

pub returns : goal.returns
returns g c = Adds-then (rw c.numbers.ensures.numbers at c.add_heading.ensures) (Adds-then c.add_allocation.ensures (Adds-to c.add_pieces.ensures (search rules)))
