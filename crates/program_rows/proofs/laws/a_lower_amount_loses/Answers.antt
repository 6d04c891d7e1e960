use Rattle.program_rows.proofs.LostFacts.{loses}
use Rattle.program_rows.proofs.laws.a_lower_amount_loses.Goals as goal

pub returns : goal.returns
returns c = loses
