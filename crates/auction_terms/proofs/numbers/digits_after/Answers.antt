use Rattle.std.proofs.Common.{◌+◌, ◌*◌, ◌-◌, ◌≤◌, ℕ, slice_index_or, arith, ap, ◌∙◌}
use Rattle.auction_terms.proofs.FoldingFacts.{after-next, digit-at, next-low, fits}
use Rattle.auction_terms.proofs.numbers.digits_after.Goals as goal

pub overflow_mul-value : goal.overflow_mul-value
overflow_mul-value c = omega (arith, fits c.loop-i.value (c.args.count + c.loop-i.i) c.loop-i.invariant.2 (omega (arith, c.requires.few)))

pub overflow_add-value : goal.overflow_add-value
overflow_add-value c =
    let d = digit-at c.args.bytes.now c.loop-i.i c.requires.digits c.loop-i-test.true in
    let top : slice_index_or c.args.bytes.now c.loop-i.i 0 ≤ 57 = d.1 in
    omega (arith, fits c.loop-i.value (c.args.count + c.loop-i.i) c.loop-i.invariant.2 (omega (arith, c.requires.few)), top)

pub loop-i-preserved : goal.loop-i-preserved
loop-i-preserved c =
    let d = digit-at c.args.bytes.now c.loop-i.i c.requires.digits c.loop-i-test.true in
    let top : slice_index_or c.args.bytes.now c.loop-i.i 0 ≤ 57 = d.1 in
    let more = after-next c.args.from c.args.bytes.now c.loop-i.i c.loop-i-test.true in (
      omega (arith, c.loop-i-test.true),
      ap (λ (v : ℕ). v * 10 + (slice_index_or c.args.bytes.now c.loop-i.i 0 - 48)) c.loop-i.invariant.1 ∙ rw (← d.2) more,
      next-low c.loop-i.value (slice_index_or c.args.bytes.now c.loop-i.i 0 - 48) c.args.count c.loop-i.i c.loop-i.invariant.2 (omega (arith, top)),
    )
