use Rattle.prices.proofs.BlockingFacts.{unblocked_suffice}
use Rattle.prices.proofs.laws.unblocked_prices_suffice.Goals as goal

pub returns : goal.returns
returns c = unblocked_suffice
