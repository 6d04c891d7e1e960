use Rattle.auction_terms.proofs.DescribedFacts.{described-groups}
use Rattle.auction_terms.proofs.NoFaultFacts.{none-lines}
use Rattle.auction_terms.proofs.laws.accepted_groups_are_these.Goals as goal

pub returns : goal.returns
returns c = record { accepted = none-lines; read = described-groups }
