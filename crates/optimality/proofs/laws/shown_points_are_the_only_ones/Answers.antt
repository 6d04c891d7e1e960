use Rattle.optimality.proofs.OnlyFacts.{shown-is-only}
use Rattle.optimality.proofs.laws.shown_points_are_the_only_ones.Goals as goal

pub returns : goal.returns
returns c = shown-is-only
