use Rattle.answers.proofs.FeasibleFacts.{reported-is-feasible}
use Rattle.answers.proofs.laws.reported_allocations_are_feasible.Goals as goal

pub returns : goal.returns
returns c = reported-is-feasible
