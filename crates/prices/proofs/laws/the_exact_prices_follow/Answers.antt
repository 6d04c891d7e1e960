use Rattle.prices.proofs.FollowingFacts.{exact_prices_follow}
use Rattle.prices.proofs.laws.the_exact_prices_follow.Goals as goal

pub returns : goal.returns
returns c = exact_prices_follow
