use Rattle.std.proofs.Common.{◌≡◌, ◌∙◌, ◌≤◌, ◌+◌, ◌^◌, List, ap, arith, rules, ℕ}
use Rattle.std.specs.Prelude.{unsigned_abs}
use Rattle.std.proofs.lemmas.Int.{to_z-of_z}
use mir.Syntax.{w128}
use mir.Val.{SFits}
use Rattle.optimality.specs.Holding.{cuts_of}
use Rattle.optimality.proofs.ColumnSizeFacts.{right-within}
use Rattle.optimality.proofs.ColumnSumFacts.{cuts_right, rows_right}
use Rattle.optimality.proofs.StopFacts.{too-large-weaker}
use Rattle.optimality.proofs.leaf_value.right_of.Goals as goal

pub returns-clause-too_large : goal.returns-clause-too_large
returns-clause-too_large c =
    let table = c.args.program.now.rows in
    let ys = c.args.leaf.now.multipliers.items in
    let cuts = cuts_of c.args.splits.now in
    let fits_cuts : SFits w128 c.in_ok-of_cuts.of_cuts = search rules in
    let fits_rows : SFits w128 c.in_ok-of_rows.of_rows = search rules in
    let of_cuts : c.in_ok-of_cuts.of_cuts ≡ cuts_right ys cuts =
    c.in_ok-of_cuts.ensures.value ∙ ap (λ (ms : List ℕ). cuts_right ms cuts) c.as_slice.ensures.value in
    let of_rows : c.in_ok-of_rows.of_rows ≡ rows_right table c.args.rows.now = c.in_ok-of_rows.ensures.value in
    let small = right-within table ys cuts c.args.rows.now in
    let cuts_size = ap unsigned_abs of_cuts in
    let rows_size = ap unsigned_abs of_rows in
    too-large-weaker c.plus.result (simp to_z-of_z at c.plus.ensures.too_large)
    (λ large. let reached : 2 ^ 127 ≤ unsigned_abs c.in_ok-of_cuts.of_cuts + unsigned_abs c.in_ok-of_rows.of_rows = large in omega arith)
