use Rattle.presolve.proofs.ReasonFacts.{kept-without}
use Rattle.presolve.proofs.laws.a_bid_is_kept_just_without_a_reason.Goals as goal

pub returns : goal.returns
returns c = kept-without
