use Rattle.auction_input.proofs.SameFormFacts.{same-sale}
use Rattle.auction_input.proofs.laws.same_forms_are_one_sale.Goals as goal

pub returns : goal.returns
returns c = same-sale
