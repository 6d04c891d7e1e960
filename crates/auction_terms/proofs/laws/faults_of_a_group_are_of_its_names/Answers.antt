use Rattle.auction_terms.proofs.AcceptedGroupsFacts.{names-are-of-items}
use Rattle.auction_terms.proofs.laws.faults_of_a_group_are_of_its_names.Goals as goal

pub returns : goal.returns
returns c bidders line = names-are-of-items bidders line
