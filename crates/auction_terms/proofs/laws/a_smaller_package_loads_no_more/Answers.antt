use Rattle.auction_terms.proofs.WeighedFacts.{weighed_le}
use Rattle.auction_terms.proofs.laws.a_smaller_package_loads_no_more.Goals as goal

pub returns : goal.returns
returns c = λ pool. weighed_le pool.weights
