use Rattle.std.proofs.Common.{refl}
use Rattle.std.proofs.lemmas.List.{get_or-replicate}
use Rattle.auction_input.proofs.CallFacts.{no-call-counted}
use Rattle.auction_input.specs.declared.call_limit.TheConstants.{COUNTS_LEN}
use Rattle.auction_input.proofs.call_limit.Calls.new.Goals as goal

pub returns : goal.returns
returns c = no-call-counted _ refl refl (λ b within. get_or-replicate COUNTS_LEN b 0 0 within)
