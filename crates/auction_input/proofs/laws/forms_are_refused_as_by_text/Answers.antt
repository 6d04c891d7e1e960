use Rattle.auction_input.proofs.BookFacts.{refused-as-text}
use Rattle.auction_input.proofs.laws.forms_are_refused_as_by_text.Goals as goal

pub returns : goal.returns
returns c = refused-as-text
