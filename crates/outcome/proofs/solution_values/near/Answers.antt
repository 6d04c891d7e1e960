use Rattle.std.proofs.Common.{sym, ◌∙◌, arith}
use Rattle.outcome.proofs.NearFacts.{raised_near, lowered_near}
use Rattle.outcome.proofs.solution_values.near.Goals as goal

pub returns-then-up-down : goal.returns-then-up-down
returns-then-up-down c = c.near_whole.ensures ∙ sym (raised_near c.args.minus c.args.digits c.args.up c.args.down c.if-up-down.true)

pub returns-else-up-down : goal.returns-else-up-down
returns-else-up-down c = c.near_part.ensures ∙ sym (lowered_near c.args.minus c.args.digits c.args.up c.args.down (omega arith))
