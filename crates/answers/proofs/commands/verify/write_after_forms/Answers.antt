use Rattle.std.proofs.Common.{rules}
use Rattle.byte_sinks.proofs.AddingFacts.{Adds-then, sends}
use Rattle.answers.proofs.commands.verify.write_after_forms.Goals as goal

pub returns : goal.returns
returns g c =
    let report = rw c.as_slice.ensures.value at c.add_report_with.ensures in
    sends _ c.flush.result c.new-writer.ensures (Adds-then c.add_forms.ensures report) c.flush.ensures.adds c.flush.ensures.ok
    c.flush.ensures.err (search rules)
