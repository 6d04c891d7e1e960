use Rattle.answers.proofs.VerifiedFacts.{no-other-is-so}
use Rattle.answers.proofs.laws.no_other_winners_than_those_printed.Goals as goal

pub returns : goal.returns
returns c = no-other-is-so
