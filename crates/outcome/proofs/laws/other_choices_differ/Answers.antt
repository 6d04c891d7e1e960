use Rattle.outcome.proofs.TieFacts.{others_differ}
use Rattle.outcome.proofs.laws.other_choices_differ.Goals as goal

pub returns : goal.returns
returns c = others_differ
