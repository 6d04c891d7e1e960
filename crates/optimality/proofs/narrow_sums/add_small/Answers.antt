use Rattle.std.proofs.Common.{◌^◌, ◌<ℤ◌, ◌≤ℤ◌, ◌+ℤ◌, arith, get_or, neg_ℤ, pos, refl, rules}
use Rattle.std.proofs.lemmas.Int.{ints, to_z-of_z}
use mir.Syntax.{w64}
use mir.Val.{SFits}
use Rattle.optimality.proofs.PlaceFacts.{more-set}
use Rattle.optimality.proofs.ProductBoundFacts.{small_sum}
use Rattle.optimality.proofs.narrow_sums.add_small.Goals as goal

pub returns : goal.returns
returns c =
    let before = c.args.sums.now in
    let place = c.args.place in
    let fits_number : SFits w64 c.args.number = c.ranges.number in
    let fits_before : SFits w64 (get_or before place (pos 0)) = search rules in
    let low = simp to_z-of_z at c.if-sum.false in
    let high = simp to_z-of_z at c.if-sum-ge-MOST_SUM.false in
    let above : neg_ℤ (pos (2 ^ 62)) ≤ℤ get_or before place (pos 0) = omega (arith, ints) in
    let below : get_or before place (pos 0) <ℤ pos (2 ^ 62) = omega (arith, ints) in
    let fits : SFits w64 (get_or before place (pos 0) +ℤ c.args.number) =
    small_sum (get_or before place (pos 0)) c.args.number above below c.requires.low c.requires.high in
    simp to_z-of_z (more-set before before place c.args.number (λ q. refl) c.if-place-sums.false)
