use Rattle.outcome.proofs.CostFacts.{costs_cover_lots}
use Rattle.outcome.proofs.laws.a_cost_covers_the_lots.Goals as goal

pub returns : goal.returns
returns c = costs_cover_lots
