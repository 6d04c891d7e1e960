use Rattle.prices.proofs.BlockingFacts.{unblocked_is_greatest}
use Rattle.prices.proofs.laws.an_unblocked_allocation_is_greatest.Goals as goal

pub returns : goal.returns
returns c = unblocked_is_greatest
