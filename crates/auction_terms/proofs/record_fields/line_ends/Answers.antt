use Rattle.std.proofs.Common.{inl, inr, ◌∙◌, sym, arith, slice_index}
use Rattle.std.proofs.lemmas.Bool.{eqb-true}
use Rattle.auction_terms.proofs.FieldFacts.{one_more}
use Rattle.auction_terms.proofs.record_fields.line_ends.Goals as goal
use Rattle.auction_terms.proofs.record_fields.line_ends.Goals.{then-bytes-count-eq10, else-bytes-count-eq10}

pub loop-count-preserved : goal.loop-count-preserved
loop-count-preserved c = record {
  within = (let small = c.loop-count-test.true in omega arith);
  same = one_more c.args.bytes.now c.loop-count.count c.loop-count-test.true
      (elim c.if-bytes-count-eq10.branch [
        | then-bytes-count-eq10 w ↦ inl w.if-bytes-count-eq10.true
        | else-bytes-count-eq10 w ↦ inr (eqb-true (slice_index c.args.bytes.now c.loop-count.count) 13 (sym w.value-is ∙ c.if-bytes-count-eq13.true))
      ])
      c.loop-count.invariant.same;
}
