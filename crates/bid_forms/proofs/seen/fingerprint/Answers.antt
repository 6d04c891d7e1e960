use Rattle.std.proofs.Common.{◌≡◌, ◌∷◌, ◌+◌, ◌-◌, ◌%◌, suc, refl, arith, add-one}
use Rattle.std.specs.List.{range_with_len}
use Rattle.bid_forms.specs.inside.Fingerprints.{next_sum, prime}
use Rattle.bid_forms.proofs.seen.fingerprint.Goals as goal

pub loop-four-preserved : goal.loop-four-preserved
loop-four-preserved c =
    let left : c.div_ceil-four-end.result - c.loop-four.four ≡ suc (c.div_ceil-four-end.result - (c.loop-four.four + 1)) = omega arith in
    let parts : range_with_len c.loop-four.four (c.div_ceil-four-end.result - c.loop-four.four) ≡ c.loop-four.four
    ∷ range_with_len (c.loop-four.four + 1) (c.div_ceil-four-end.result - (c.loop-four.four + 1)) = rw (left, add-one c.loop-four.four) refl in
    let before = rw parts at c.loop-four.invariant.0 in
    let next : c.next_sum-sum.result ≡ next_sum (c.args.multiplier % prime) c.args.quantities.now c.loop-four.sum c.loop-four.four =
    rw c.four_from.ensures.same at c.next_sum-sum.ensures.same in
    (rw next before, c.next_sum-sum.ensures.small)
