use Rattle.answers.proofs.FormsFirstFacts.{verified-objects-are-true}
use Rattle.answers.proofs.laws.objects_after_their_forms_are_true.Goals as goal

pub returns : goal.returns
returns c = verified-objects-are-true
