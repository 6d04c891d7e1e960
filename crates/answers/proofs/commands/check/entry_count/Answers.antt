use Rattle.answers.proofs.SizeFacts.{entries-more}
use Rattle.answers.proofs.commands.check.entry_count.Goals as goal

pub loop-column-preserved : goal.loop-column-preserved
loop-column-preserved c = entries-more c.args.program.now.columns c.loop-column.column c.entries.result.now c.loop-column.count
    c.saturating_add-count.result c.entries.ensures c.loop-column.invariant c.saturating_add-count.ensures
