use Rattle.program_rows.proofs.SelectionFacts.{selection_is_program}
use Rattle.program_rows.proofs.laws.what_is_left_is_the_program_of_the_others.Goals as goal

pub returns : goal.returns
returns c = selection_is_program
