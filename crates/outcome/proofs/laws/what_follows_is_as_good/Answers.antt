use Rattle.outcome.proofs.FollowFacts.{following_are_greatest}
use Rattle.outcome.proofs.laws.what_follows_is_as_good.Goals as goal

pub returns : goal.returns
returns c = following_are_greatest
