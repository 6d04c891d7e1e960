use Rattle.auction_input.proofs.SealedTextFacts.{same-texts}
use Rattle.auction_input.proofs.laws.same_texts_are_one_sale.Goals as goal

pub returns : goal.returns
returns c = same-texts
