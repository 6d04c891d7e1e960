use Rattle.std.proofs.Common.{◌≡◌, ◌++◌, ◌∙◌, ℕ, List, [], sym, ap, append-nil, arith, length, rules}
use Rattle.auction_terms.proofs.AllFaultsFacts.{found-all, found-more}
use Rattle.auction_terms.proofs.GroupsTextFacts.{groups-more, groups-within, with-room}
use Rattle.auction_terms.proofs.JudgeFacts.{holds-both, holds-none}
use Rattle.auction_terms.proofs.LineCountFacts.{lines-within}
use Rattle.auction_terms.specs.AllFaults.{accepted_with}
use Rattle.auction_terms.specs.GroupsText.{line_faults}
use Rattle.auction_terms.specs.Judged.{Fault}
use Rattle.auction_terms.specs.declared.groups_text.GroupFault.{GroupFault}
use Rattle.auction_terms.specs.declared.rules.Bidder.{Bidder}
use Rattle.auction_terms.proofs.groups_text.judge_lines.Goals as goal

abbrev faults_by_line : List Bidder → ℕ → List (List ℕ) → List ℕ → List (Fault GroupFault)
faults_by_line bidders = λ place before line. line_faults bidders place line

pub loop-line-init : goal.loop-line-init
loop-line-init c = ([], [], search rules, holds-none c.args.faults.now, search rules, λ none. search rules, search rules, search rules, search rules)

pub overflow_add-place : goal.overflow_add-place
overflow_add-place c =
    let (so_far, accepted, found, told, count, groups, few, low, each) = c.loop-line.invariant in
    let short = c.requires.short in
    let more = ap length c.in-Some.ensures in
    let within = lines-within c.args.bytes.now in
    omega arith

pub loop-line-preserved : goal.loop-line-preserved
loop-line-preserved c =
    let (so_far, accepted, found, told, count, groups, few, low, each) = c.loop-line.invariant in
    let bidders = c.args.bidders.now in
    let of_line = faults_by_line bidders in
    let place = c.loop-line.place in
    let line = c.in-Some.line.now in
    let own = line_faults bidders place line in
    let more = ap length c.in-Some.ensures in
    let added : c.add_group.new.groups.items ≡ with-room place c.loop-line.groups.items c.in_ok-group.group = search rules in
    let within = groups-within place c.loop-line.groups.items c.in_ok-group.group few low each c.in_ok-group.ensures.numbers in (
      so_far ++ own,
      accepted_with own accepted line,
      found-more of_line _ so_far place accepted c.loop-line.lines c.next.new.self line found c.in-Some.ensures,
      holds-both _ _ _ so_far own told c.in_ok-group.ensures.told,
      omega arith,
      λ none. rw added (groups-more bidders place so_far c.loop-line.groups.items c.in_ok-group.group line c.loop-line.lines c.next.new.self _
          groups c.in-Some.ensures c.in_ok-group.ensures.group none),
      rw added within.0,
      rw added (let size = within.1 in omega arith),
      rw added within.2,
    )

pub returns-clause-told : goal.returns-clause-told
returns-clause-told c =
    let (so_far, accepted, found, told, count, groups, few, low, each) = c.loop-line.invariant in
    rw (found-all (faults_by_line c.args.bidders.now) _ so_far c.loop-line.place accepted c.loop-line.lines found c.in_default.ensures.0) told

pub returns-clause-groups : goal.returns-clause-groups
returns-clause-groups c none =
    let (so_far, accepted, found, told, count, groups, few, low, each) = c.loop-line.invariant in
    let all = found-all (faults_by_line c.args.bidders.now) _ so_far c.loop-line.place accepted c.loop-line.lines found c.in_default.ensures.0 in
    let same = rw c.in_default.ensures.0 at (groups (sym all ∙ none)) in
    sym (append-nil c.loop-line.groups.items) ∙ same
