use Rattle.solving.proofs.AuditFacts.{all-unsolved}
use Rattle.solving.proofs.solver.solve.Goals as goal

pub returns-in_err-solved-clause-unsolved : goal.returns-in_err-solved-clause-unsolved
returns-in_err-solved-clause-unsolved g c = all-unsolved _ _ _ c.from_residual.result
