use Rattle.prices.proofs.RoundingFacts.{rounded_up_suffice}
use Rattle.prices.proofs.laws.rounded_up_prices_suffice.Goals as goal

pub returns : goal.returns
returns c = rounded_up_suffice
