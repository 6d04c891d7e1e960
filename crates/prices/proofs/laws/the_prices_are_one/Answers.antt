use Rattle.prices.proofs.RuleFacts.{the_prices_are_one}
use Rattle.prices.proofs.laws.the_prices_are_one.Goals as goal

pub returns : goal.returns
returns c = the_prices_are_one
