use Rattle.std.proofs.Common.{◌≡◌, take}
use Rattle.answers.proofs.SizeFacts.{entry_count}
use Rattle.answers.proofs.commands.check.entry_count.Given as goal

abbrev pub invariant-loop-column : goal.invariant-loop-column
invariant-loop-column l = l.count ≡ entry_count (take l.column l.program.columns)
