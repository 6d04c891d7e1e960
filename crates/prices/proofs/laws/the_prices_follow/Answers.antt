use Rattle.prices.proofs.FollowingFacts.{the_prices_follow}
use Rattle.prices.proofs.laws.the_prices_follow.Goals as goal

pub returns : goal.returns
returns c = the_prices_follow
