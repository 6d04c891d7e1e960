use Rattle.answers.proofs.ExplainedForFacts.{explains-for}
use Rattle.answers.proofs.laws.what_is_explained_for_a_command_is_what_it_refuses.Goals as goal

pub returns : goal.returns
returns c = explains-for
