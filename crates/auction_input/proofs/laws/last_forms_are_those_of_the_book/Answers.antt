use Rattle.auction_input.proofs.BookFacts.{of-auction}
use Rattle.auction_input.proofs.laws.last_forms_are_those_of_the_book.Goals as goal

pub returns : goal.returns
returns c = of-auction
