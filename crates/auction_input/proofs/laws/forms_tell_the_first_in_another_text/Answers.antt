use Rattle.auction_terms.proofs.FirstFaultFacts.{tells_the_first}
use Rattle.auction_input.specs.FormTexts.{another_form}
use Rattle.auction_input.proofs.laws.forms_tell_the_first_in_another_text.Goals as goal

pub returns : goal.returns
returns c t = tells_the_first (another_form t)
