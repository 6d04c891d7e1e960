use Rattle.input_faults.proofs.InputBeginsFacts.{begin-input}
use Rattle.input_faults.proofs.laws.all_faults_begin_with_the_one_that_is_reported.Goals as goal

pub returns : goal.returns
returns c = begin-input
