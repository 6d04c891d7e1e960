use Rattle.std.proofs.Common.{rules}
use Rattle.byte_sinks.proofs.AddingFacts.{sends}
use Rattle.answers.proofs.commands.forms.write_parts.Goals as goal

pub returns : goal.returns
returns g c = sends _ c.flush.result c.new-writer.ensures c.add_forms.ensures c.flush.ensures.adds c.flush.ensures.ok c.flush.ensures.err (search rules)
