use Rattle.auction_terms.proofs.FaultsOfRulesFacts.{entries-are-of-items, of-records}
use Rattle.auction_terms.proofs.laws.faults_of_rules_are_of_their_records.Goals as goal

pub returns : goal.returns
returns c = record { rules = of-records; records = entries-are-of-items }
