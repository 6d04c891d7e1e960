use Rattle.answers.proofs.FeasibleFacts.{mapped-is-feasible}
use Rattle.answers.proofs.laws.a_mapped_allocation_is_feasible.Goals as goal

pub returns : goal.returns
returns c = mapped-is-feasible
