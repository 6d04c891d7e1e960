use Rattle.std.proofs.Common.{get_or, pos, rules, arith}
use Rattle.std.proofs.lemmas.Int.{to_z-of_z}
use mir.Syntax.{w64}
use mir.Val.{to_z, of_z}
use Rattle.optimality.proofs.FormFacts.{term-added, all-added, term-too-large}
use Rattle.optimality.proofs.StopFacts.{too-large-passed}
use Rattle.optimality.proofs.sums.add_narrow.Goals as goal

pub loop-place-preserved : goal.loop-place-preserved
loop-place-preserved c =
    let t = get_or c.args.form.now c.loop-place.place-index (0, pos 0) in
    let number = to_z-of_z w64 t.1 (search rules) in
    term-added (to_z w64 (of_z w64 c.args.factor)) c.args.form.now c.loop-place.place-index _ c.args.sums.now.numbers.items
    c.loop-place.sums.numbers.items c.add_product.new.sums.numbers.items c.loop-place-test.true number c.in_ok-add_product.ensures.value c.loop-place.invariant

pub returns-clause-value : goal.returns-clause-value
returns-clause-value c =
    all-added _ c.args.factor c.args.form.now c.loop-place.place-index c.args.sums.now.numbers.items c.loop-place.sums.numbers.items
    (to_z-of_z w64 c.args.factor c.ranges.factor) (omega (arith, c.loop-place-test.false)) c.loop-place.invariant

pub returns-in_err-add_product-clause-too_large : goal.returns-in_err-add_product-clause-too_large
returns-in_err-add_product-clause-too_large c =
    let t = get_or c.args.form.now c.loop-place.place-index (0, pos 0) in
    let number = to_z-of_z w64 t.1 (search rules) in
    too-large-passed (Unit {0}) c.from_residual.result c.in_err-add_product.field-0.0 c.from_residual.ensures.1 c.in_err-add_product.ensures.too_large
    (λ large. term-too-large _ c.args.factor c.args.form.now c.loop-place.place-index _ c.args.sums.now.numbers.items c.loop-place.sums.numbers.items
    (to_z-of_z w64 c.args.factor c.ranges.factor) c.loop-place-test.true number c.loop-place.invariant large)
