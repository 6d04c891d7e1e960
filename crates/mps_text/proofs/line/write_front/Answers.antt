use Rattle.std.proofs.Common.{arith}
use Rattle.mps_text.proofs.ShortLineFacts.{front_written}
use Rattle.mps_text.proofs.line.write_front.Goals as goal

pub returns-clause-written : goal.returns-clause-written
returns-clause-written c =
    front_written c.args.front.now c.copy_from_slice.new.self c.args.name.now (omega arith) c.copy_from_slice.ensures.after
