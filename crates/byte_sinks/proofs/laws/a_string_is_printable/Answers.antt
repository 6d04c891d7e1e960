use Rattle.byte_sinks.proofs.JsonFacts.{string-printable}
use Rattle.byte_sinks.proofs.laws.a_string_is_printable.Goals as goal

pub returns : goal.returns
returns c = string-printable
