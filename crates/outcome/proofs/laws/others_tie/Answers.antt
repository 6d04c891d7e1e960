use Rattle.outcome.proofs.TieFacts.{others_tie}
use Rattle.outcome.proofs.laws.others_tie.Goals as goal

pub returns : goal.returns
returns c = others_tie
