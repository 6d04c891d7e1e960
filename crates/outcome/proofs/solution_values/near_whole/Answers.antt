use Rattle.std.proofs.Common.{arith}
use Rattle.outcome.proofs.NearFacts.{minus_whole, many_digits, many_places}
use Rattle.outcome.proofs.solution_values.near_whole.Goals as goal

pub returns-then-minus : goal.returns-then-minus
returns-then-minus c = rw c.if-minus.true (minus_whole c.args.digits c.args.places (omega arith))

pub returns-then-digits-gt1 : goal.returns-then-digits-gt1
returns-then-digits-gt1 c = rw c.if-minus.false (many_digits c.args.digits c.args.places c.if-digits-gt1.true)

pub returns-then-places-gt0 : goal.returns-then-places-gt0
returns-then-places-gt0 c = rw c.if-minus.false (many_places c.args.digits c.args.places (omega arith) c.if-places-gt0.true)
