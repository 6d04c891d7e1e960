use Rattle.prices.proofs.ExistFacts.{every_group_has_a_cost}
use Rattle.prices.proofs.laws.every_group_has_a_cost.Goals as goal

pub returns : goal.returns
returns c = every_group_has_a_cost
