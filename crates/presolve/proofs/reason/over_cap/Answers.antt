use Rattle.std.proofs.Common.{◌∙◌}
use Rattle.presolve.proofs.SearchFacts.{cap-found, cap-passed}
use Rattle.presolve.proofs.reason.over_cap.Goals as goal

pub loop-pool-preserved : goal.loop-pool-preserved
loop-pool-preserved c =
    c.loop-pool.invariant ∙ cap-passed c.args.package.now c.args.rules.now.pools c.loop-pool.pool c.load-load.result c.index-pools-pool.result
    (rw c.pools-pools.ensures.value at c.loop-pool-test.true) (rw c.pools-pools.ensures.value at c.index-pools-pool.is)
    c.load-load.ensures.load c.if-load-found.false

pub returns-then-load-found : goal.returns-then-load-found
returns-then-load-found c =
    cap-found c.args.rules.now c.args.package.now c.loop-pool.pool c.load-load.result c.index-pools-pool.result
    (rw c.pools-pools.ensures.value at c.loop-pool-test.true) (rw c.pools-pools.ensures.value at c.index-pools-pool.is)
    c.load-load.ensures.load c.if-load-found.true c.loop-pool.invariant
