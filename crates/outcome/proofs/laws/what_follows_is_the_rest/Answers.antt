use Rattle.outcome.proofs.FollowFacts.{following_are_the_rest}
use Rattle.outcome.proofs.laws.what_follows_is_the_rest.Goals as goal

pub returns : goal.returns
returns c = following_are_the_rest
