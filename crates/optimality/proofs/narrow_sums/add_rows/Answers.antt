use Rattle.std.proofs.Common.{get_or, pos, rules}
use Rattle.std.proofs.lemmas.Int.{to_z-of_z}
use mir.Syntax.{w128}
use mir.Val.{SFits}
use Rattle.optimality.specs.RowForms.{forms_held}
use Rattle.optimality.proofs.StepFacts.{rows-step}
use Rattle.optimality.proofs.narrow_sums.add_rows.Goals as goal

pub loop-row-preserved : goal.loop-row-preserved
loop-row-preserved c =
    let fits_number : SFits w128 (get_or c.args.rows.now c.loop-row.row-index (0, pos 0)).1 = search rules in
    let added = simp to_z-of_z at c.in_ok-add_row.ensures in
    rows-step c.args.rows.now (forms_held c.args.forms.now) c.loop-row.row-index (0, pos 0) c.args.sums.now c.loop-row.sums c.add_row.new.sums
    c.loop-row-test.true added c.loop-row.invariant
