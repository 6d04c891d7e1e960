use Rattle.outcome.proofs.BackFacts.{answers_of_solvers_come_back}
use Rattle.outcome.proofs.laws.an_answer_of_a_solver_comes_back.Goals as goal

pub returns : goal.returns
returns c = answers_of_solvers_come_back
