use Rattle.outcome.proofs.SomeBidFacts.{some_bids_suffice}
use Rattle.outcome.proofs.laws.some_bids_suffice.Goals as goal

pub returns : goal.returns
returns c = some_bids_suffice
