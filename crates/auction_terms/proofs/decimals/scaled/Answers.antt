use Rattle.std.proofs.Common.{sym, ◌∙◌, arith}
use Rattle.auction_terms.proofs.PowerFacts.{raised_is, lowered_is}
use Rattle.auction_terms.proofs.decimals.scaled.Goals as goal

pub returns-then-up-down : goal.returns-then-up-down
returns-then-up-down c = c.raised.ensures ∙ sym (raised_is c.args.digits c.args.up c.args.down c.if-up-down.true)

pub returns-else-up-down : goal.returns-else-up-down
returns-else-up-down c = c.lowered.ensures ∙ sym (lowered_is c.args.digits c.args.up c.args.down (omega arith))
