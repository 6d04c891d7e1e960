use Rattle.prices.proofs.RoundingFacts.{rounded_up_is_one}
use Rattle.prices.proofs.laws.rounded_up_prices_are_one.Goals as goal

pub returns : goal.returns
returns c = rounded_up_is_one
