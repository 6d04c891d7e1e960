use Rattle.mps_text.proofs.ShortLineFacts.{name_written}
use Rattle.mps_text.proofs.line.write_name.Goals as goal

pub returns-clause-written : goal.returns-clause-written
returns-clause-written c = name_written c.args.at c.args.line.now c.args.name.now c.requires.some c.requires.few c.requires.room
