use Rattle.std.proofs.Common.{◌≡◌, ◌≢◌, ◌∙◌, sym, true, false, length, rules}
use Rattle.auction_terms.specs.Groups.{starts_empty}
use Rattle.answers.proofs.CountFacts.{not-empty, solutions-miscounted}
use Rattle.answers.proofs.report_run.check_counts.Goals as goal

pub returns-then-not-starts_empty-clause-refuses : goal.returns-then-not-starts_empty-clause-refuses
returns-then-not-starts_empty-clause-refuses c =
    let some : starts_empty c.args.auction.now.groups ≡ false = sym c.starts_empty.ensures ∙ c.if-not-starts_empty.true in
    not-empty c.args.auction.now some

pub returns-then-len-count-clause-refuses : goal.returns-then-len-count-clause-refuses
returns-then-len-count-clause-refuses c =
    let auction = c.args.auction.now in
    let empty : starts_empty auction.groups ≡ true = search rules in
    let other : length auction.solutions.items ≢ length auction.groups = (λ same. search rules) in
    solutions-miscounted auction empty other
