use Rattle.auction_terms.proofs.FirstFaultFacts.{tells_the_first}
use Rattle.auction_input.specs.CallLimit.{one_too_many}
use Rattle.auction_input.proofs.laws.forms_tell_the_first_beyond_the_call_limit.Goals as goal

pub returns : goal.returns
returns c = tells_the_first one_too_many
