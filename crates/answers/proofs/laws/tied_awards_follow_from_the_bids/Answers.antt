use Rattle.answers.proofs.AwardFacts.{awards_follow}
use Rattle.answers.proofs.laws.tied_awards_follow_from_the_bids.Goals as goal

pub returns : goal.returns
returns c = awards_follow
