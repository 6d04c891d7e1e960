use Rattle.std.proofs.Common.{◌≡◌, ◌∙◌, ap₂, rules, ℤ, ◌+ℤ◌}
use Rattle.std.specs.Prelude.{◌-ℤ◌}
use Rattle.std.proofs.lemmas.Int.{to_z-of_z}
use mir.Syntax.{w128}
use mir.Val.{SFits}
use Rattle.optimality.specs.Reduced.{reduced}
use Rattle.optimality.specs.Holding.{cuts_of}
use Rattle.optimality.proofs.AlikeFacts.{rows-alike}
use Rattle.optimality.proofs.ColumnSumFacts.{cuts_right, least_sum, rows_right}
use Rattle.optimality.proofs.leaf_value.value_by_columns.Goals as goal

pub returns-in-Ok-minus : goal.returns-in-Ok-minus
returns-in-Ok-minus c =
    let p = c.args.checker.now.program.now in
    let leaf = c.args.leaf.now in
    let ys = leaf.multipliers.items in
    let cuts = cuts_of c.args.splits.now in
    let rows = c.args.rows.now in
    let fits : SFits w128 c.in-Ok-minus.value = search rules in
    let fits_bottom : SFits w128 c.in_ok-bottom.bottom = search rules in
    let fits_right : SFits w128 c.in-Ok.right = search rules in
    let minus = simp to_z-of_z at c.in-Ok-minus.ensures.value in
    let bottom : c.in_ok-bottom.bottom ≡ least_sum (reduced leaf.scale ys cuts rows) 0 p.columns = c.in_ok-bottom.ensures in
    let right : c.in-Ok.right ≡ cuts_right ys cuts +ℤ rows_right p.rows rows = c.in-Ok.ensures.value in
    simp to_z-of_z (minus ∙ ap₂ (λ (a b : ℤ). a -ℤ b) bottom right ∙ rows-alike p cuts leaf.scale ys rows leaf.rows.items c.requires.alike)
