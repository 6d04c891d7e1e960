use Rattle.std.proofs.Common.{arith}
use Rattle.auction_terms.proofs.WeighedFacts.{weighed_end}
use Rattle.auction_terms.proofs.packages.weighed.Goals as goal

pub returns-clause-sum : goal.returns-clause-sum
returns-clause-sum c =
    let at_end = c.min-place-end.ensures in
    let test = c.loop-place-test.false in
    let nothing = weighed_end c.args.weights.now c.args.quantities.now c.loop-place.place (omega arith) in
    let so_far = c.loop-place.invariant.0 in
    omega arith
