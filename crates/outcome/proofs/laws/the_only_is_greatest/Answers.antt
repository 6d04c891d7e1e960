use Rattle.outcome.proofs.TieFacts.{the_only_is_greatest}
use Rattle.outcome.proofs.laws.the_only_is_greatest.Goals as goal

pub returns : goal.returns
returns c = the_only_is_greatest
