use Rattle.prices.proofs.ExistFacts.{suffice_iff_none_blocks}
use Rattle.prices.proofs.laws.prices_suffice_if_and_only_if_none_blocks.Goals as goal

pub returns : goal.returns
returns c = suffice_iff_none_blocks
