use Rattle.std.proofs.Common.{None, refl}
use Rattle.std.proofs.lemmas.List.{get_or-replicate}
use Rattle.auction_input.proofs.LastFormFacts.{none-held}
use Rattle.auction_input.specs.declared.last_forms.TheConstants.{FORMS_LEN}
use Rattle.auction_input.proofs.last_forms.LastForms.new.Goals as goal

pub returns : goal.returns
returns c = none-held _ refl (λ b within. get_or-replicate FORMS_LEN b None None within)
