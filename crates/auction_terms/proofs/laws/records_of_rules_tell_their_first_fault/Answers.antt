use Rattle.auction_terms.proofs.FirstOfAllFacts.{first-of-all}
use Rattle.auction_terms.specs.RulesText.{fault_of_entry}
use Rattle.auction_terms.proofs.laws.records_of_rules_tell_their_first_fault.Goals as goal

pub returns : goal.returns
returns c version = first-of-all (fault_of_entry version)
