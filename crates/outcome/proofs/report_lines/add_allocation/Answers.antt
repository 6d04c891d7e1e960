use Rattle.std.proofs.Common.{rules}
use Rattle.byte_sinks.proofs.AddingFacts.{Adds-then, Adds-to}
use Rattle.outcome.proofs.report_lines.add_allocation.Goals as goal

pub returns : goal.returns
returns g c = Adds-then c.add_winners.ensures (Adds-to c.add_pieces.ensures (search rules))
