use Rattle.std.proofs.Common.{◌≡◌, ◌∷◌, [], ◌++◌}
use Rattle.std.specs.Prelude.{option_map, option_to_list}
use Rattle.csv.specs.Records.{fields_of}
use Rattle.auction_terms.proofs.JudgeFacts.{holds-both, holds-none}
use Rattle.auction_terms.proofs.RulesTextFacts.{taken-all, taken-more, taken-none}
use Rattle.auction_terms.specs.Judged.{kept_fault}
use Rattle.auction_terms.proofs.rules_text.judge_entries.Goals as goal

pub loop-row-init : goal.loop-row-init
loop-row-init c = ([], rw c.requires.empty (taken-none c.args.version c.args.reader.now), holds-none c.args.faults.now)

pub loop-row-preserved : goal.loop-row-preserved
loop-row-preserved c =
    let (so_far, so, told) = c.loop-row.invariant in
    let r = fields_of c.next.new.row in
    let next : c.loop-row.reader ≡ r ∷ c.next.new.self = rw c.if-branch.true at c.in_ok-next.ensures.next in (
      so_far ++ option_to_list (option_map kept_fault c.in_ok-at.at),
      taken-more c.args.version c.args.reader.now c.loop-row.reader c.next.new.self c.loop-row.count c.loop-row.draft c.add_entry.new.draft
          so_far r c.in_ok-at.at so next c.in_ok-at.ensures.fault c.in_ok-at.ensures.draft,
      holds-both _ _ _ so_far _ told c.in_ok-add_any.ensures,
    )

pub returns-clause-count : goal.returns-clause-count
returns-clause-count c =
    let (so_far, so, told) = c.loop-row.invariant in
    (taken-all _ _ _ _ _ so_far so (rw c.if-branch.false at c.in_ok-next.ensures.next)).0

pub returns-clause-told : goal.returns-clause-told
returns-clause-told c =
    let (so_far, so, told) = c.loop-row.invariant in
    rw (taken-all _ _ _ _ _ so_far so (rw c.if-branch.false at c.in_ok-next.ensures.next)).1 told

pub returns-clause-read : goal.returns-clause-read
returns-clause-read c =
    let (so_far, so, told) = c.loop-row.invariant in
    (taken-all _ _ _ _ _ so_far so (rw c.if-branch.false at c.in_ok-next.ensures.next)).2
