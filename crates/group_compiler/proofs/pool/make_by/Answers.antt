use Rattle.std.proofs.lemmas.Result.{IfOk-weaker}
use Rattle.group_compiler.proofs.WorkFacts.{all_below, all_made, all_past}
use Rattle.group_compiler.proofs.pool.make_by.Goals as goal

pub in_order-requires-clause-below : goal.in_order-requires-clause-below
in_order-requires-clause-below g c κs within = all_below (g.M.Maker.count_of c.args.maker.now) c.in_ok-work.work.claim.drawn
    c.in_ok-work.work.results.items c.in_ok-work.ensures.0.numbers

pub in_order-requires-clause-complete : goal.in_order-requires-clause-complete
in_order-requires-clause-complete g c κs within =
    let w = c.in_ok-work.ensures.0 in
    all_made _ _ c.close.result c.in_ok-work.work.claim.drawn _ c.close.ensures.each_once c.close.ensures.count w.finished w.numbers

pub returns-clause-past : goal.returns-clause-past
returns-clause-past g c =
    let w = c.in_ok-work.ensures.0 in
    IfOk-weaker c.in_order.result _ _ (λ all h. all_past _ _ c.close.result (g.G.Stop.is_past c.args.stop.now)
    c.in_ok-work.work.claim.drawn c.close.ensures.each_once c.close.ensures.count w.finished w.past) c.in_order.ensures
