use Rattle.answers.proofs.AskedFacts.{is-wdp}
use Rattle.answers.proofs.parser.parser.Goals as goal

pub returns : goal.returns
returns c = is-wdp c.plain_command.result _ c.subcommands.result c.plain_command.ensures c.in_ok-add_all.ensures c.subcommands.ensures
