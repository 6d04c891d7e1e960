use Rattle.award_objects.proofs.SumFacts.{sums_add_up}
use Rattle.award_objects.proofs.laws.the_sums_add_up.Goals as goal

pub returns : goal.returns
returns c = sums_add_up
