use Rattle.std.proofs.Common.{arith}
use Rattle.mps_text.proofs.ShortLineFacts.{one_digit, two_digits}
use Rattle.mps_text.proofs.line.write_end.Goals as goal

pub returns-then-number-lt10-clause-written : goal.returns-then-number-lt10-clause-written
returns-then-number-lt10-clause-written c =
    one_digit c.args.at c.args.line.now c.args.number (omega arith) (omega arith)

pub returns-clause-written : goal.returns-clause-written
returns-clause-written c =
    two_digits c.args.at c.args.line.now c.args.number (omega arith) c.requires.small c.requires.room
