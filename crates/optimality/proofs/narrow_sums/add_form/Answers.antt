use Rattle.std.proofs.Common.{get_or, pos, rules, arith}
use Rattle.std.proofs.lemmas.Int.{to_z-of_z}
use mir.Syntax.{w64}
use mir.Val.{to_z, of_z}
use Rattle.optimality.proofs.FormFacts.{term-added, all-added}
use Rattle.optimality.proofs.narrow_sums.add_form.Goals as goal

pub loop-place-preserved : goal.loop-place-preserved
loop-place-preserved c =
    let t = get_or c.args.form.now c.loop-place.place-index (0, pos 0) in
    let number = to_z-of_z w64 t.1 (search rules) in
    term-added (to_z w64 (of_z w64 c.args.factor)) c.args.form.now c.loop-place.place-index _ c.args.sums.now c.loop-place.sums c.add_product.new.sums
    c.loop-place-test.true number c.in_ok-add_product.ensures c.loop-place.invariant

pub returns : goal.returns
returns c =
    all-added _ c.args.factor c.args.form.now c.loop-place.place-index c.args.sums.now c.loop-place.sums
    (to_z-of_z w64 c.args.factor c.ranges.factor) (omega (arith, c.loop-place-test.false)) c.loop-place.invariant
