use Rattle.auction_terms.proofs.FirstFaultFacts.{tells_the_first}
use Rattle.auction_input.specs.Parts.{part_fault}
use Rattle.auction_input.proofs.laws.parts_tell_their_first_fault.Goals as goal

pub returns : goal.returns
returns c request = tells_the_first (part_fault request)
