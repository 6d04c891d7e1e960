use Rattle.prices.proofs.AloneFacts.{listed_are_costs_alone}
use Rattle.prices.proofs.laws.listed_costs_are_costs_alone.Goals as goal

pub returns : goal.returns
returns c = listed_are_costs_alone
