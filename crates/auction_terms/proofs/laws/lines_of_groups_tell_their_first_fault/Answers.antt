use Rattle.auction_terms.proofs.FirstOfAllFacts.{first-of-all}
use Rattle.auction_terms.specs.GroupsText.{line_faults}
use Rattle.auction_terms.proofs.laws.lines_of_groups_tell_their_first_fault.Goals as goal

pub returns : goal.returns
returns c bidders = first-of-all (λ place before line. line_faults bidders place line)
