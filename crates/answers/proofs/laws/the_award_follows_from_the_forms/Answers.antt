use Rattle.answers.proofs.FormAwardFacts.{award-of-forms}
use Rattle.answers.proofs.laws.the_award_follows_from_the_forms.Goals as goal

pub returns : goal.returns
returns c = award-of-forms
