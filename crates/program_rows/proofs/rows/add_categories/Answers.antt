use Rattle.program_rows.specs.declared.subject.Subject.TheVariants.{Category}
use Rattle.program_rows.proofs.BuildFacts.{one_more}
use Rattle.program_rows.proofs.rows.add_categories.Goals as goal

pub loop-place-preserved : goal.loop-place-preserved
loop-place-preserved c = one_more (λ place. Category place) _ _ _ c.loop-place.place c.loop-place.invariant c.in_ok-push.ensures.items
