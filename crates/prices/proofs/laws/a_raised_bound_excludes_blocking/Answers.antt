use Rattle.prices.proofs.RaisedFacts.{raised_bound_excludes}
use Rattle.prices.proofs.laws.a_raised_bound_excludes_blocking.Goals as goal

pub returns : goal.returns
returns c = raised_bound_excludes
