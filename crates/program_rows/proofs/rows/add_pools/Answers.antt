use Rattle.program_rows.specs.declared.subject.Subject.TheVariants.{Pool}
use Rattle.program_rows.proofs.BuildFacts.{one_more}
use Rattle.program_rows.proofs.rows.add_pools.Goals as goal

pub loop-place-preserved : goal.loop-place-preserved
loop-place-preserved c = one_more (λ place. Pool place) _ _ _ c.loop-place.place c.loop-place.invariant c.in_ok-push.ensures.items
