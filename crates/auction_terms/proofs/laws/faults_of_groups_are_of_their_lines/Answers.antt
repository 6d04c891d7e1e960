use Rattle.auction_terms.proofs.AcceptedGroupsFacts.{lines-are-of-items}
use Rattle.auction_terms.proofs.laws.faults_of_groups_are_of_their_lines.Goals as goal

pub returns : goal.returns
returns c bidders = lines-are-of-items bidders
