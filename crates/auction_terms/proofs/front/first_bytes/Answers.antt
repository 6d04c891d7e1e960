use Rattle.std.proofs.Common.{arith, sym, take_all}
use Rattle.auction_terms.specs.declared.limits.TheConstants.{FRONT_LEN}
use Rattle.auction_terms.proofs.front.first_bytes.Goals as goal

pub returns-else-text-gt-FRONT_LEN-clause-bytes : goal.returns-else-text-gt-FRONT_LEN-clause-bytes
returns-else-text-gt-FRONT_LEN-clause-bytes c = sym (take_all FRONT_LEN c.args.text.now (omega arith))
