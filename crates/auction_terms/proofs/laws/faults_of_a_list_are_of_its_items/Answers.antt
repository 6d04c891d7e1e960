use Rattle.auction_terms.proofs.AcceptedFacts.{are-of-items}
use Rattle.auction_terms.proofs.laws.faults_of_a_list_are_of_its_items.Goals as goal

pub returns : goal.returns
returns g c faults_of stays = are-of-items faults_of stays
