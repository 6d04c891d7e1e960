use Rattle.auction_terms.proofs.WeighedFacts.{weighed_loads}
use Rattle.auction_terms.proofs.laws.loads_add_up.Goals as goal

pub returns : goal.returns
returns c = λ lots book a sized weights. weighed_loads lots book sized weights a
