use Rattle.outcome.proofs.TieFacts.{only_first_settles_costs}
use Rattle.outcome.proofs.laws.the_only_first_settles_costs.Goals as goal

pub returns : goal.returns
returns c = only_first_settles_costs
