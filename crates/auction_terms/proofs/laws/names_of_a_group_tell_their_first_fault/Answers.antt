use Rattle.auction_terms.proofs.FirstOfAllFacts.{first-of-all}
use Rattle.auction_terms.specs.GroupsText.{name_faults}
use Rattle.auction_terms.proofs.laws.names_of_a_group_tell_their_first_fault.Goals as goal

pub returns : goal.returns
returns c bidders line = first-of-all (name_faults bidders line)
