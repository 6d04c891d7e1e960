use Rattle.answers.proofs.DigestFacts.{award-of-digests}
use Rattle.answers.proofs.laws.the_award_follows_from_the_digests.Goals as goal

pub returns : goal.returns
returns c = award-of-digests
