use Rattle.std.proofs.Common.{rules}
use Rattle.byte_sinks.proofs.AddingFacts.{sends}
use Rattle.outcome.proofs.writing.write_allocation.Goals as goal

pub returns : goal.returns
returns g c = sends _ c.flush.result c.new-writer.ensures (rw c.choices.ensures.choices at c.add_allocation.ensures) c.flush.ensures.adds c.flush.ensures.ok c.flush.ensures.err (search rules)
