use Rattle.outcome.proofs.OtherFacts.{others_are_true}
use Rattle.outcome.proofs.laws.what_is_printed_of_others_is_true.Goals as goal

pub returns : goal.returns
returns c = others_are_true
