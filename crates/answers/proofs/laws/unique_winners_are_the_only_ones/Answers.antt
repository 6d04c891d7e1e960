use Rattle.answers.proofs.VerifiedFacts.{unique-is-only}
use Rattle.answers.proofs.laws.unique_winners_are_the_only_ones.Goals as goal

pub returns : goal.returns
returns c = unique-is-only
