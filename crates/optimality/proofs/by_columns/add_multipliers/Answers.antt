use Rattle.std.proofs.Common.{get_or, pos, rules, subst, ℤ}
use Rattle.std.proofs.lemmas.Int.{to_z-of_z}
use mir.Syntax.{w64, w128}
use mir.Val.{SFits}
use Rattle.optimality.specs.Adding.{AreGivenMore, at_place}
use Rattle.optimality.proofs.ByColumnFacts.{multipliers-step}
use Rattle.optimality.proofs.by_columns.add_multipliers.Goals as goal

pub loop-row-preserved : goal.loop-row-preserved
loop-row-preserved c =
    let t = get_or c.args.rows.now c.loop-row.row-index (0, pos 0) in
    let fits : SFits w64 c.in_ok-narrow.field-0 = search rules in
    let fits_number : SFits w128 (get_or c.args.rows.now c.loop-row.row-index (0, pos 0)).1 = search rules in
    let number = simp to_z-of_z at c.in_ok-narrow.ensures in
    let added = simp to_z-of_z at c.in_ok-add_at.ensures in
    let more : AreGivenMore (at_place t.0 t.1) c.loop-row.multipliers c.add_at.new.sums =
    subst (λ (n : ℤ). AreGivenMore (at_place t.0 n) c.loop-row.multipliers c.add_at.new.sums) number added in
    λ row. multipliers-step c.args.rows.now c.loop-row.row-index (0, pos 0) c.loop-row.multipliers c.add_at.new.sums row c.loop-row-test.true (more row)
    (c.loop-row.invariant row)
