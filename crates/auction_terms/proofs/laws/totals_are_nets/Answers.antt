use Rattle.auction_terms.proofs.AllocationFacts.{total_is}
use Rattle.auction_terms.proofs.laws.totals_are_nets.Goals as goal

pub returns : goal.returns
returns c = total_is
