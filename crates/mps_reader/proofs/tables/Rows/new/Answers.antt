use Rattle.std.proofs.Common.{rules}
use Rattle.mps_reader.proofs.FitFacts.{empty-fits}
use Rattle.mps_reader.proofs.tables.Rows.new.Goals as goal

pub returns-clause-fit : goal.returns-clause-fit
returns-clause-fit c = empty-fits _ (search rules)
