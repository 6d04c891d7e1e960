use Rattle.desk_book.proofs.Standing.{stands}
use Rattle.desk_book.proofs.machine.whole_call.Goals as goal

pub returns-clause-call : goal.returns-clause-call
returns-clause-call c = stands c.args.rules.now c.args.bytes.now c.find_call.result c.find_call.ensures.call c.in-Whole.call _ c.in-Whole.is c.requires
