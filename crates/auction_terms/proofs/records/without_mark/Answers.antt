use Rattle.std.proofs.Common.{◌∙◌, arith}
use Rattle.auction_terms.proofs.FieldFacts.{mark_dropped, others_kept}
use Rattle.auction_terms.proofs.records.without_mark.Goals as goal
use Rattle.auction_terms.proofs.records.without_mark.Goals.{else-text-ge3-via-then-text-ge3+then-text+then-text-2+else-text-3}
use Rattle.auction_terms.proofs.records.without_mark.Goals.{else-text-ge3-via-then-text-ge3+then-text+else-text-2}
use Rattle.auction_terms.proofs.records.without_mark.Goals.{else-text-ge3-via-then-text-ge3+else-text}
use Rattle.auction_terms.proofs.records.without_mark.Goals.{else-text-ge3-via-else-text-ge3}

pub returns-then-text-3 : goal.returns-then-text-3
returns-then-text-3 c = c.split_at.ensures.back ∙ mark_dropped c.args.text.now c.if-text-ge3.true c.if-text.true c.if-text-2.true c.if-text-3.true

pub returns : goal.returns
returns c = others_kept c.args.text.now (λ some first second third. elim c.else-text-ge3.branch [
  | else-text-ge3-via-then-text-ge3+then-text+then-text-2+else-text-3 w ↦ w.if-text-3.false third
  | else-text-ge3-via-then-text-ge3+then-text+else-text-2 w ↦ w.if-text-2.false second
  | else-text-ge3-via-then-text-ge3+else-text w ↦ w.if-text.false first
  | else-text-ge3-via-else-text-ge3 w ↦ absurd (let short = w.if-text-ge3.false in omega arith)
])
