use Rattle.answers.proofs.FormsFirstFacts.{verified-with-forms-is-true}
use Rattle.answers.proofs.laws.a_report_after_its_forms_is_true.Goals as goal

pub returns : goal.returns
returns c = verified-with-forms-is-true
