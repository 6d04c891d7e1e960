use Rattle.answers.proofs.FaithfulFacts.{compiled-is-faithful}
use Rattle.answers.proofs.laws.compiled_texts_are_faithful.Goals as goal

pub returns : goal.returns
returns c = compiled-is-faithful
