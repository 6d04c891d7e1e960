use Rattle.std.proofs.Common.{Err, ◌≡◌, ◌∙◌, Ok, [], ap, arith, length}
use Rattle.auction_terms.proofs.FirstFaultFacts.{answers-parsed}
use Rattle.auction_terms.proofs.JudgeFacts.{first-held, none-held}
use Rattle.auction_terms.specs.GroupsText.{group_faults, groups_of, is_groups_memory}
use Rattle.auction_terms.proofs.groups_text.read_groups.Goals as goal

pub returns-in-empty-clause-answer : goal.returns-in-empty-clause-answer
returns-in-empty-clause-answer c short =
    let held = rw c.bidders.ensures.value at (c.in_ok-groups.ensures.told 1 [] c.new-faults.ensures) in
    let empty : length c.judge_lines.new.faults.kept.items ≡ 0 = (let few = rw c.as_slice.ensures.value at c.in-empty.len_below in omega (arith, few)) in
    let none : group_faults c.args.rules.now.bidders c.args.bytes.now ≡ [] = none-held 1 _ _ (omega arith) held empty in
    let groups = rw c.bidders.ensures.value at c.in_ok-groups.ensures.groups in
    rw none (ap Ok (c.new.ensures ∙ groups none))

pub returns-clause-answer : goal.returns-clause-answer
returns-clause-answer c short =
    let held = rw c.bidders.ensures.value at (c.in_ok-groups.ensures.told 1 [] c.new-faults.ensures) in
    let some = rw c.as_slice.ensures.value at c.in-len1-up.len_at_least in
    let first : Err c.first-item.result.fault ≡ groups_of c.args.rules.now.bidders c.args.bytes.now =
    rw (c.first-item.is, c.as_slice.ensures.value) (first-held c.judge_lines.new.faults _ _ _ held some) in
    answers-parsed is_groups_memory _ (groups_of c.args.rules.now.bidders c.args.bytes.now) first
