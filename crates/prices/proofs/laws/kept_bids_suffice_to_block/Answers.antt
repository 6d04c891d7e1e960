use Rattle.prices.proofs.BlockingFacts.{kept_bids_suffice}
use Rattle.prices.proofs.laws.kept_bids_suffice_to_block.Goals as goal

pub returns : goal.returns
returns c = kept_bids_suffice
