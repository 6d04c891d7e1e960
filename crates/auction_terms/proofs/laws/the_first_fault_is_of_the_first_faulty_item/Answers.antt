use Rattle.auction_terms.proofs.FirstOfAllFacts.{first-of-all}
use Rattle.auction_terms.proofs.laws.the_first_fault_is_of_the_first_faulty_item.Goals as goal

pub returns : goal.returns
returns g c faults_of = first-of-all faults_of
