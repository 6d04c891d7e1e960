use Rattle.auction_input.proofs.DescribedFacts.{described-auction}
use Rattle.auction_input.proofs.laws.inputs_are_read_as_they_describe.Goals as goal

pub returns : goal.returns
returns c = described-auction
