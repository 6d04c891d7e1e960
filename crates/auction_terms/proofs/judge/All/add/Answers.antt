use Rattle.std.proofs.Common.{refl, rules}
use Rattle.auction_terms.proofs.JudgeFacts.{holds-count, holds-more}
use Rattle.auction_terms.specs.Judged.{kept_fault}
use Rattle.auction_terms.proofs.judge.All.add.Goals as goal

pub returns-then-len-self : goal.returns-then-len-self
returns-then-len-self g c most faults holds =
    holds-count most c.args.self.now _ faults (kept_fault c.args.at) holds (search rules) refl refl c.saturating_add-self.ensures

pub returns : goal.returns
returns g c most faults holds =
    holds-more most c.args.self.now _ faults c.args.at holds (search rules) refl (search rules) refl
