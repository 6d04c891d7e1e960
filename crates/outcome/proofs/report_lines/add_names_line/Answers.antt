use Rattle.byte_sinks.proofs.AddingFacts.{Adds-then}
use Rattle.outcome.proofs.report_lines.add_names_line.Goals as goal

pub returns : goal.returns
returns g c = Adds-then c.add_names.ensures c.add.ensures
