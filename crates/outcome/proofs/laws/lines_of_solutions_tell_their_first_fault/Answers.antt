use Rattle.auction_terms.proofs.FirstFaultFacts.{tells_the_first}
use Rattle.outcome.specs.Solution.{solution_line_fault}
use Rattle.outcome.proofs.laws.lines_of_solutions_tell_their_first_fault.Goals as goal

pub returns : goal.returns
returns c columns = tells_the_first (solution_line_fault columns)
