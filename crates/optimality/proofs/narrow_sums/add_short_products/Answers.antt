use Rattle.std.proofs.Common.{get_or, neg_ℤ, pos, rules, subst, sym, arith, ◌≤◌, ◌≤ℤ◌, ◌^◌, length, ℤ}
use Rattle.std.specs.Prelude.{◌*ℤ◌}
use Rattle.std.proofs.lemmas.Int.{to_z-of_z}
use mir.Syntax.{w16, w64}
use mir.Val.{SFits}
use Rattle.optimality.specs.Adding.{AreGivenMore, at_place}
use Rattle.optimality.proofs.PlaceFacts.{form-step, form-end}
use Rattle.optimality.proofs.ProductBoundFacts.{short_high, short_low, short_product}
use Rattle.optimality.proofs.narrow_sums.add_short_products.Goals as goal

pub overflow_mul-factor : goal.overflow_mul-factor
overflow_mul-factor c =
    let t = get_or c.args.form.now c.loop-place.place-index (0, pos 0) in
    let fits_factor : SFits w64 c.args.factor = c.ranges.factor in
    let fits : SFits w64 c.from.result = search rules in
    let fits_number : SFits w16 (get_or c.args.form.now c.loop-place.place-index (0, pos 0)).1 = search rules in
    let number = simp to_z-of_z at c.from.ensures in
    let product = short_product c.args.factor t.1 c.requires.low c.requires.high fits_number in
    simp to_z-of_z (subst (λ (n : ℤ). SFits w64 (c.args.factor *ℤ n)) (sym number) product)

pub add_small-requires-clause-low : goal.add_small-requires-clause-low
add_small-requires-clause-low c =
    let t = get_or c.args.form.now c.loop-place.place-index (0, pos 0) in
    let fits_factor : SFits w64 c.args.factor = c.ranges.factor in
    let fits : SFits w64 c.from.result = search rules in
    let fits_number : SFits w16 (get_or c.args.form.now c.loop-place.place-index (0, pos 0)).1 = search rules in
    let number = simp to_z-of_z at c.from.ensures in
    let product = short_product c.args.factor t.1 c.requires.low c.requires.high fits_number in
    let fits_product : SFits w64 (c.args.factor *ℤ c.from.result) = subst (λ (n : ℤ). SFits w64 (c.args.factor *ℤ n)) (sym number) product in
    simp to_z-of_z (subst (λ (n : ℤ). neg_ℤ (pos (2 ^ 62)) ≤ℤ (c.args.factor *ℤ n)) (sym number)
    (short_low c.args.factor t.1 c.requires.low c.requires.high fits_number))

pub add_small-requires-clause-high : goal.add_small-requires-clause-high
add_small-requires-clause-high c =
    let t = get_or c.args.form.now c.loop-place.place-index (0, pos 0) in
    let fits_factor : SFits w64 c.args.factor = c.ranges.factor in
    let fits : SFits w64 c.from.result = search rules in
    let fits_number : SFits w16 (get_or c.args.form.now c.loop-place.place-index (0, pos 0)).1 = search rules in
    let number = simp to_z-of_z at c.from.ensures in
    let product = short_product c.args.factor t.1 c.requires.low c.requires.high fits_number in
    let fits_product : SFits w64 (c.args.factor *ℤ c.from.result) = subst (λ (n : ℤ). SFits w64 (c.args.factor *ℤ n)) (sym number) product in
    simp to_z-of_z (subst (λ (n : ℤ). (c.args.factor *ℤ n) ≤ℤ pos (2 ^ 62)) (sym number)
    (short_high c.args.factor t.1 c.requires.low c.requires.high fits_number))

pub loop-place-preserved : goal.loop-place-preserved
loop-place-preserved c =
    let t = get_or c.args.form.now c.loop-place.place-index (0, pos 0) in
    let fits_factor : SFits w64 c.args.factor = c.ranges.factor in
    let fits : SFits w64 c.from.result = search rules in
    let fits_number : SFits w16 (get_or c.args.form.now c.loop-place.place-index (0, pos 0)).1 = search rules in
    let number = simp to_z-of_z at c.from.ensures in
    let product = short_product c.args.factor t.1 c.requires.low c.requires.high fits_number in
    let fits_product : SFits w64 (c.args.factor *ℤ c.from.result) = subst (λ (n : ℤ). SFits w64 (c.args.factor *ℤ n)) (sym number) product in
    let added = simp to_z-of_z at c.in_ok-add_small.ensures in
    let before = simp to_z-of_z at c.loop-place.invariant in
    simp to_z-of_z (form-step c.args.factor c.args.form.now c.loop-place.place-index (0, pos 0) c.args.sums.now c.loop-place.sums c.add_small.new.sums c.loop-place-test.true
    (subst (λ (n : ℤ). AreGivenMore (at_place t.0 (c.args.factor *ℤ n)) c.loop-place.sums c.add_small.new.sums) number added) before)

pub returns : goal.returns
returns c =
    let fits_factor : SFits w64 c.args.factor = c.ranges.factor in
    let before = simp to_z-of_z at c.loop-place.invariant in
    let past : length c.args.form.now ≤ c.loop-place.place-index = omega (arith, c.loop-place-test.false) in
    form-end c.args.factor c.args.form.now c.loop-place.place-index c.args.sums.now c.loop-place.sums past before
