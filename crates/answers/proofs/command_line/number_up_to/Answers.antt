use Rattle.std.proofs.Common.{rules}
use Rattle.answers.proofs.AskedFacts.{number-read, number-unread}
use Rattle.answers.proofs.command_line.number_up_to.Goals as goal

pub returns-in-Ok-clause-number : goal.returns-in-Ok-clause-number
returns-in-Ok-clause-number c = number-read c.args.most c.args.text.now _ c.in-Ok.ensures.value.0.0 c.in-Ok.ensures.value.0.1 (search rules) (search rules)

pub returns-in_default-3-clause-number : goal.returns-in_default-3-clause-number
returns-in_default-3-clause-number c = number-unread c.args.most c.args.text.now c.in_default.ensures.value.0
