use Rattle.std.proofs.Common.{[]}
use Rattle.auction_terms.specs.declared.limits.TheConstants.{MOST_FAULTS}
use Rattle.auction_terms.proofs.rules_text.judge_rules.Goals as goal

pub returns-then-bytes-gt-TEXT_LIMIT-clause-too_large : goal.returns-then-bytes-gt-TEXT_LIMIT-clause-too_large
returns-then-bytes-gt-TEXT_LIMIT-clause-too_large c large =
    (λ none. cc none, rw c.of_whole.ensures at (c.in_ok-add.ensures MOST_FAULTS [] c.new-faults.ensures))

pub returns-in-None-clause-answer : goal.returns-in-None-clause-answer
returns-in-None-clause-answer c short =
    (rw c.in-None.is at c.in_ok-rules.ensures.rules, rw c.new-faults.ensures.limit at c.in_ok-rules.ensures.told)
