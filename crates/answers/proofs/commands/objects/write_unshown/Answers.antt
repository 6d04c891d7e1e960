use Rattle.std.proofs.Common.{rules}
use Rattle.byte_sinks.proofs.AddingFacts.{Adds-then, sends}
use Rattle.answers.proofs.commands.objects.write_unshown.Goals as goal

pub returns : goal.returns
returns g c =
    sends _ c.flush.result c.new-writer.ensures (Adds-then c.add_forms.ensures c.add_unshown.ensures) c.flush.ensures.adds c.flush.ensures.ok
    c.flush.ensures.err (search rules)
