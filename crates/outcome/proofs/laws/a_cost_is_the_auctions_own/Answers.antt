use Rattle.outcome.proofs.CostFacts.{costs_are_own}
use Rattle.outcome.proofs.laws.a_cost_is_the_auctions_own.Goals as goal

pub returns : goal.returns
returns c = costs_are_own
