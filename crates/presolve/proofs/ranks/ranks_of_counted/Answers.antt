use Rattle.std.proofs.Common.{arith}
use Rattle.presolve.proofs.SieveFacts.{ranked_by}
use Rattle.presolve.proofs.ranks.ranks_of_counted.Goals as goal

pub returns : goal.returns
returns c =
    let inv = c.loop-place.invariant in
    ranked_by c.args.numbers.now c.loop-place.ranks.items c.in_ok-by_number.by_number.items inv.count
    (λ k inside. inv.own k (let end = c.loop-place-test.false in omega arith))
    (λ k d inside. (let most = c.requires.within k d inside in let size = c.in_ok-by_number.ensures.count in omega arith)) c.in_ok-by_number.ensures.rising
