use Rattle.answers.proofs.FaithfulFacts.{text-is-faithful}
use Rattle.answers.proofs.laws.a_text_is_faithful.Goals as goal

pub returns : goal.returns
returns c = text-is-faithful
