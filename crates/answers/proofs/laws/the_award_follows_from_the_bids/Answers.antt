use Rattle.answers.proofs.AwardFacts.{award_follows}
use Rattle.answers.proofs.laws.the_award_follows_from_the_bids.Goals as goal

pub returns : goal.returns
returns c = award_follows
