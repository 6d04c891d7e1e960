use Rattle.bid_forms.proofs.AcceptedFormsFacts.{faultless-described, parsed-described}
use Rattle.bid_forms.proofs.laws.accepted_forms_are_these.Goals as goal

pub returns : goal.returns
returns c = record { accepted = faultless-described; read = parsed-described }
