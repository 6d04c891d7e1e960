use Rattle.std.proofs.Common.{refl}
use Rattle.solving.specs.Audits.{in_part, unproved, unproved_in_part, unwritten}
use Rattle.solving.proofs.solver.write_solved.Goals as goal

pub returns-then-not-options-clause-unsolved : goal.returns-then-not-options-clause-unsolved
returns-then-not-options-clause-unsolved g c = unwritten refl

pub returns-in-Err-clause-unsolved : goal.returns-in-Err-clause-unsolved
returns-in-Err-clause-unsolved g c = in_part c.in-Err.ensures.refused

pub returns-in-Ok-write_unproved-clause-unsolved : goal.returns-in-Ok-write_unproved-clause-unsolved
returns-in-Ok-write_unproved-clause-unsolved g c = unproved c.in-Ok-write_unproved.ensures.solutions

pub returns-in-Err-write_unproved-clause-unsolved : goal.returns-in-Err-write_unproved-clause-unsolved
returns-in-Err-write_unproved-clause-unsolved g c = unproved_in_part c.in-Err-write_unproved.ensures.refused
