use Rattle.std.proofs.Common.{rules}
use Rattle.byte_sinks.proofs.AddingFacts.{sends}
use Rattle.input_faults.proofs.lines.put_lines.Goals as goal

pub returns : goal.returns
returns g c = sends _ c.flush.result c.new-writer.ensures c.add.ensures c.flush.ensures.adds c.flush.ensures.ok c.flush.ensures.err (search rules)
