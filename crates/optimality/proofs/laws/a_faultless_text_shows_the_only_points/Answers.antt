use Rattle.optimality.proofs.VerdictFacts.{only-verdict}
use Rattle.optimality.proofs.laws.a_faultless_text_shows_the_only_points.Goals as goal

pub returns : goal.returns
returns c = only-verdict
