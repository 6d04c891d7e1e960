use Rattle.std.proofs.Common.{arith, sym, take_all}
use Rattle.input_faults.proofs.shown.front.Goals as goal

pub returns-else-text-gt-SHOWN_LEN : goal.returns-else-text-gt-SHOWN_LEN
returns-else-text-gt-SHOWN_LEN c = sym (take_all 40 c.args.text.now (omega arith))
