use Rattle.std.proofs.Common.{arith}
use Rattle.auction_input.proofs.SubmissionFacts.{few-sessions}
use Rattle.auction_input.proofs.round.part_count.Goals as goal

pub overflow_add-result : goal.overflow_add-result
overflow_add-result c =
    let few = few-sessions c.args.rules.now c.within_limits.ensures.terms in
    let count = c.session_count.ensures in
    omega arith
