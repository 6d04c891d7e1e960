use Rattle.input_faults.proofs.ShownFacts.{front-shown}
use Rattle.input_faults.proofs.laws.a_text_is_shown_by_its_first_bytes.Goals as goal

pub returns : goal.returns
returns c text = front-shown text
