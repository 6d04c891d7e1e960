use Rattle.outcome.proofs.TieFacts.{only_first_tells_costs}
use Rattle.outcome.proofs.laws.the_only_first_tells_costs.Goals as goal

pub returns : goal.returns
returns c = only_first_tells_costs
