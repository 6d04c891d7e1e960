use Rattle.std.proofs.Common.{rules}
use Rattle.byte_sinks.proofs.AddingFacts.{sends}
use Rattle.outcome.proofs.writing.report_with.Goals as goal

pub returns : goal.returns
returns g c = sends _ c.flush.result c.new-writer.ensures c.add_report_with.ensures c.flush.ensures.adds c.flush.ensures.ok c.flush.ensures.err (search rules)
