use Rattle.prices.proofs.RuleFacts.{shown_are_the_prices}
use Rattle.prices.proofs.laws.weights_show_the_prices.Goals as goal

pub returns : goal.returns
returns c = shown_are_the_prices
