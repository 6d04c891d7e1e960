use Rattle.byte_sinks.proofs.JsonFacts.{one-text}
use Rattle.byte_sinks.proofs.laws.a_string_is_of_one_text.Goals as goal

pub returns : goal.returns
returns c = one-text
