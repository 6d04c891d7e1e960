use Rattle.input_faults.proofs.StringFacts.{read-text}
use Rattle.input_faults.proofs.laws.a_string_is_read_as_its_text.Goals as goal

pub returns : goal.returns
returns c = read-text
