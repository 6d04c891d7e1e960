use Rattle.std.proofs.Common.{◌≡◌, ◌∙◌, Ok, [], ap, arith, length, rules, sym}
use Rattle.auction_terms.proofs.JudgeFacts.{found-some, none-held}
use Rattle.auction_terms.specs.GroupsText.{group_faults}
use Rattle.auction_terms.specs.declared.limits.TheConstants.{MOST_FAULTS}
use Rattle.auction_terms.proofs.groups_text.judge_groups.Goals as goal

pub returns-then-bytes-gt-TEXT_LIMIT-clause-too_large : goal.returns-then-bytes-gt-TEXT_LIMIT-clause-too_large
returns-then-bytes-gt-TEXT_LIMIT-clause-too_large c large =
    (λ none. cc none, rw c.of_whole.ensures at (c.in_ok-add.ensures MOST_FAULTS [] c.new-faults.ensures))

pub returns-then-not-is_empty-clause-answer : goal.returns-then-not-is_empty-clause-answer
returns-then-not-is_empty-clause-answer c short =
    let held = rw c.bidders.ensures.value at (c.in_ok-groups.ensures.told MOST_FAULTS [] c.new-faults.ensures) in
    (found-some MOST_FAULTS _ _ held (λ none. (let e = c.is_empty.ensures in let f = c.if-not-is_empty.true in search rules)), held)

pub returns-clause-answer : goal.returns-clause-answer
returns-clause-answer c short =
    let held = rw c.bidders.ensures.value at (c.in_ok-groups.ensures.told MOST_FAULTS [] c.new-faults.ensures) in
    let empty : length c.judge_lines.new.faults.kept.items ≡ 0 = (let e = c.is_empty.ensures in let f = c.if-not-is_empty.false in search rules) in
    let none : group_faults c.args.rules.now.bidders c.args.bytes.now ≡ [] = none-held MOST_FAULTS _ _ (omega arith) held empty in
    let groups = rw c.bidders.ensures.value at c.in_ok-groups.ensures.groups in
    rw none (ap Ok (sym (c.new.ensures ∙ groups none)))
