use Rattle.std.proofs.Common.{◌≡◌, suc, ◌+◌, ◌*◌, ◌-◌, ◌^◌, ◌≤◌, ℕ, slice_index_or, sym, ap, ◌∙◌, arith}
use Rattle.std.specs.Char.{is_ascii_digit}
use Rattle.std.proofs.lemmas.Bool.{and_from}
use Rattle.std.proofs.lemmas.List.{take_all}
use Rattle.std.proofs.lemmas.List.Folds.{list_all_more}
use Rattle.auction_terms.proofs.PowerFacts.{pow_above}
use Rattle.auction_terms.proofs.FoldingFacts.{after-next, ascii-range}
use Rattle.auction_terms.proofs.decimals.few_digits.Goals as goal

pub overflow_mul-value : goal.overflow_mul-value
overflow_mul-value c = omega (arith, pow_above c.loop-i.i 17 (omega arith), c.loop-i.invariant.low)

pub overflow_add-value : goal.overflow_add-value
overflow_add-value c =
    let d = ascii-range (slice_index_or c.args.bytes.now c.loop-i.i 0) (sym c.is_ascii_digit.ensures.value ∙ c.if-not-is_ascii_digit.false) in
    let top : slice_index_or c.args.bytes.now c.loop-i.i 0 ≤ 57 = d.1 in
    omega (arith, pow_above c.loop-i.i 17 (omega arith), c.loop-i.invariant.low, top)

pub loop-i-preserved : goal.loop-i-preserved
loop-i-preserved c =
    let digit = sym c.is_ascii_digit.ensures.value ∙ c.if-not-is_ascii_digit.false in
    let d = ascii-range (slice_index_or c.args.bytes.now c.loop-i.i 0) digit in
    let top : slice_index_or c.args.bytes.now c.loop-i.i 0 ≤ 57 = d.1 in
    let next : 10 ^ (c.loop-i.i + 1) ≡ 10 ^ suc c.loop-i.i = ap (λ (k : ℕ). 10 ^ k) (omega arith) in
    let more = after-next 0 c.args.bytes.now c.loop-i.i c.loop-i-test.true in
    record {
      within = omega (arith, c.loop-i-test.true);
      digits = list_all_more is_ascii_digit c.args.bytes.now c.loop-i.i 0 c.loop-i-test.true ∙ and_from _ _ c.loop-i.invariant.digits digit;
      value = ap (λ (v : ℕ). v * 10 + (slice_index_or c.args.bytes.now c.loop-i.i 0 - 48)) c.loop-i.invariant.value ∙ rw (← d.2) more;
      low = omega (arith, next, c.loop-i.invariant.low, top);
    }

pub returns-clause-digits : goal.returns-clause-digits
returns-clause-digits c = rw (take_all c.loop-i.i c.args.bytes.now (omega (arith, c.loop-i-test.false))) at c.loop-i.invariant.digits

pub returns-clause-low : goal.returns-clause-low
returns-clause-low c = omega (arith, pow_above c.loop-i.i 18 (omega (arith, c.loop-i.invariant.within, c.if-bytes-gt18.false)), c.loop-i.invariant.low)
