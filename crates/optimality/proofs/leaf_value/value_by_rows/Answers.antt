use Rattle.std.proofs.Common.{◌≡◌, ◌∙◌, ◌≤◌, ◌+◌, ◌*◌, ◌^◌, ap, ap₂, arith, rules, ℤ, ◌+ℤ◌}
use Rattle.std.specs.Prelude.{◌-ℤ◌, unsigned_abs}
use Rattle.std.proofs.lemmas.Int.{to_z-of_z}
use Rattle.std.proofs.lemmas.Result.{IfOk-weaker}
use mir.Syntax.{w128}
use mir.Val.{SFits}
use Rattle.optimality.specs.Reduced.{reduced}
use Rattle.optimality.specs.inside.Adding.{AreAlike}
use Rattle.optimality.specs.Holding.{cuts_of}
use Rattle.optimality.proofs.AlikeFacts.{rows-alike}
use Rattle.optimality.proofs.ColumnSumFacts.{cuts_right, least_sum, rows_right}
use Rattle.optimality.specs.Sizes.{costs_size}
use Rattle.optimality.specs.inside.Stopping.{given_size}
use Rattle.optimality.proofs.ColumnSizeFacts.{leaf-parts, right-within}
use Rattle.optimality.proofs.SizeFacts.{abs-less, abs-sum}
use Rattle.optimality.proofs.StopFacts.{too-large-passed, too-large-weaker}
use Rattle.optimality.proofs.leaf_value.value_by_rows.Goals as goal

pub returns-clause-value : goal.returns-clause-value
returns-clause-value c =
    let p = c.args.checker.now.program.now in
    let leaf = c.args.leaf.now in
    let ys = leaf.multipliers.items in
    let cuts = cuts_of c.args.splits.now in
    let rows = c.args.rows.now in
    let fits_bottom : SFits w128 c.in_ok-bottom.bottom = search rules in
    let fits_right : SFits w128 c.in_ok-right.right = search rules in
    let alike : AreAlike rows leaf.rows.items = c.requires.alike in
    let bottom : c.in_ok-bottom.bottom ≡ least_sum (reduced leaf.scale ys cuts rows) 0 p.columns = c.in_ok-bottom.ensures.value in
    let right : c.in_ok-right.right ≡ cuts_right ys cuts +ℤ rows_right p.rows rows = c.in_ok-right.ensures.value in
    let minus = simp to_z-of_z at c.minus.ensures.value in
    IfOk-weaker c.minus.result _ _ (λ n e. e ∙ ap₂ (λ (a b : ℤ). a -ℤ b) bottom right ∙ rows-alike p cuts leaf.scale ys rows leaf.rows.items alike) minus

pub returns-in_err-bottom-clause-too_large : goal.returns-in_err-bottom-clause-too_large
returns-in_err-bottom-clause-too_large c =
    let p = c.args.checker.now.program.now in
    let leaf = c.args.leaf.now in
    let ys = leaf.multipliers.items in
    let cuts = cuts_of c.args.splits.now in
    let rows = c.args.rows.now in
    let parts = leaf-parts p c.args.checker.now.least cuts leaf.scale ys rows leaf.rows.items c.requires.size in
    too-large-passed ℤ c.from_residual.result c.in_err-bottom.field-0.0 c.from_residual.ensures.1 c.in_err-bottom.ensures.too_large
    (λ large. let reached = large in omega arith)

pub returns-in_err-right-clause-too_large : goal.returns-in_err-right-clause-too_large
returns-in_err-right-clause-too_large c =
    let p = c.args.checker.now.program.now in
    let leaf = c.args.leaf.now in
    let ys = leaf.multipliers.items in
    let cuts = cuts_of c.args.splits.now in
    let rows = c.args.rows.now in
    let parts = leaf-parts p c.args.checker.now.least cuts leaf.scale ys rows leaf.rows.items c.requires.size in
    too-large-passed ℤ c.from_residual-in_err-right.result c.in_err-right.field-0.0 c.from_residual-in_err-right.ensures.1 c.in_err-right.ensures.too_large
    (λ large. let reached = large in omega arith)

pub returns-clause-too_large : goal.returns-clause-too_large
returns-clause-too_large c =
    let p = c.args.checker.now.program.now in
    let leaf = c.args.leaf.now in
    let ys = leaf.multipliers.items in
    let cuts = cuts_of c.args.splits.now in
    let rows = c.args.rows.now in
    let fits_bottom : SFits w128 c.in_ok-bottom.bottom = search rules in
    let fits_right : SFits w128 c.in_ok-right.right = search rules in
    let parts = leaf-parts p c.args.checker.now.least cuts leaf.scale ys rows leaf.rows.items c.requires.size in
    let bottom : unsigned_abs c.in_ok-bottom.bottom ≤ leaf.scale * costs_size p.columns + given_size p.columns ys cuts rows =
    c.in_ok-bottom.ensures.size in
    let right : c.in_ok-right.right ≡ cuts_right ys cuts +ℤ rows_right p.rows rows = c.in_ok-right.ensures.value in
    let size : unsigned_abs c.in_ok-right.right ≡ unsigned_abs (cuts_right ys cuts +ℤ rows_right p.rows rows) = ap unsigned_abs right in
    let both = abs-sum (cuts_right ys cuts) (rows_right p.rows rows) in
    let small = right-within p.rows ys cuts rows in
    let less = abs-less c.in_ok-bottom.bottom c.in_ok-right.right in
    too-large-weaker c.minus.result (simp to_z-of_z at c.minus.ensures.too_large)
    (λ large. let reached : 2 ^ 127 ≤ unsigned_abs (c.in_ok-bottom.bottom -ℤ c.in_ok-right.right) = large in omega arith)
