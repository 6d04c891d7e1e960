use Rattle.std.proofs.Common.{arith}
use Rattle.auction_terms.proofs.WeighedFacts.{weighed_end}
use Rattle.award_objects.proofs.lots.weighed.Goals as goal

pub returns : goal.returns
returns c =
    let end = c.min-place-end.ensures in
    let test = c.loop-place-test.false in
    let nothing = weighed_end c.args.weights.now c.args.lots.now c.loop-place.place (omega arith) in
    let so_far = c.loop-place.invariant.load_is in
    omega arith
