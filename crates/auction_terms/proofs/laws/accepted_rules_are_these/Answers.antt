use Rattle.auction_terms.proofs.AcceptedRulesFacts.{none-rules}
use Rattle.auction_terms.proofs.DescribedFacts.{described-rules}
use Rattle.auction_terms.proofs.laws.accepted_rules_are_these.Goals as goal

pub returns : goal.returns
returns c = record { accepted = none-rules; read = described-rules }
