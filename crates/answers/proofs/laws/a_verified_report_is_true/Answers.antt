use Rattle.answers.proofs.VerifiedFacts.{verified-is-true}
use Rattle.answers.proofs.laws.a_verified_report_is_true.Goals as goal

pub returns : goal.returns
returns c = verified-is-true
