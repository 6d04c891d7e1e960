use Rattle.std.proofs.Common.{None, refl}
use Rattle.std.proofs.lemmas.List.{get_or-replicate}
use Rattle.auction_input.proofs.FormTextFacts.{no-text-known}
use Rattle.auction_input.specs.declared.form_texts.TheConstants.{TEXTS_LEN}
use Rattle.auction_input.proofs.form_texts.FormTexts.new.Goals as goal

pub returns : goal.returns
returns c = λ t. no-text-known t _ refl refl (λ b within. get_or-replicate TEXTS_LEN b None None within)
