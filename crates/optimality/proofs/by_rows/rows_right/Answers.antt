use Rattle.std.proofs.Common.{◌≡◌, ◌≤◌, ◌+◌, ◌^◌, ◌*◌, ◌+ℤ◌, ◌∙◌, ap, arith, rules, pos, get_or, ℕ, ℤ}
use Rattle.std.specs.Prelude.{◌*ℤ◌, unsigned_abs}
use Rattle.optimality.specs.Reduced.{right_side_at}
use Rattle.std.proofs.lemmas.Int.{ints, to_z-of_z, unsigned_abs-mul}
use mir.Syntax.{w64, w128}
use mir.Val.{SFits, to_z}
use Rattle.optimality.proofs.StepFacts.{right-step}
use Rattle.optimality.proofs.SizeFacts.{row-right-within, step-within}
use Rattle.optimality.proofs.StopFacts.{too-large-passed}
use Rattle.optimality.proofs.by_rows.rows_right.Goals as goal

pub loop-row-preserved : goal.loop-row-preserved
loop-row-preserved c =
    let table = c.args.program.now.rows in
    let term = get_or c.args.rows.now c.loop-row.row-index (0, pos 0) in
    let sum = to_z w128 c.loop-row.sum-bits in
    let fits_row : SFits w128 term.1 = search rules in
    let fits_side : SFits w64 c.right_side_at.result = search rules in
    let fits_from : SFits w128 c.from-right_side.result = search rules in
    let widened = simp to_z-of_z at c.from-right_side.ensures in
    let side : c.from-right_side.result ≡ right_side_at table term.0 = widened ∙ c.right_side_at.ensures in
    let fits_product : SFits w128 c.in_ok-product.product = search rules in
    let of_product = simp to_z-of_z at c.in_ok-product.ensures.value in
    let product : c.in_ok-product.product ≡ term.1 *ℤ right_side_at table term.0 = of_product ∙ ap (λ (n : ℤ). term.1 *ℤ n) side in
    let fits : SFits w128 c.in_ok-sum.sum = search rules in
    let of_sum = simp to_z-of_z at c.in_ok-sum.ensures.value in
    let added : c.in_ok-sum.sum ≡ sum +ℤ term.1 *ℤ right_side_at table term.0 = of_sum ∙ ap (λ (n : ℤ). sum +ℤ n) product in
    simp to_z-of_z (right-step table c.args.rows.now c.loop-row.row-index (0, pos 0) sum c.in_ok-sum.sum _ c.loop-row-test.true added
    c.loop-row.invariant)

pub returns-in_err-product-clause-too_large : goal.returns-in_err-product-clause-too_large
returns-in_err-product-clause-too_large c =
    let table = c.args.program.now.rows in
    let term = get_or c.args.rows.now c.loop-row.row-index (0, pos 0) in
    let sum = to_z w128 c.loop-row.sum-bits in
    let fits_row : SFits w128 term.1 = search rules in
    let fits_side : SFits w64 c.right_side_at.result = search rules in
    let fits_from : SFits w128 c.from-right_side.result = search rules in
    let widened = simp to_z-of_z at c.from-right_side.ensures in
    let side : c.from-right_side.result ≡ right_side_at table term.0 = widened ∙ c.right_side_at.ensures in
    let size : unsigned_abs (term.1 *ℤ right_side_at table term.0) ≡ unsigned_abs term.1 * unsigned_abs (right_side_at table term.0) =
    unsigned_abs-mul term.1 (right_side_at table term.0) in
    too-large-passed ℤ c.from_residual.result c.in_err-product.field-0.0 c.from_residual.ensures.1 c.in_err-product.ensures.too_large
    (λ large.
    let within_all = step-within (λ (t : ℕ × ℤ). t.1 *ℤ right_side_at table t.0)
    (λ (t : ℕ × ℤ). unsigned_abs t.1 * unsigned_abs (right_side_at table t.0)) (row-right-within table) c.args.rows.now c.loop-row.row-index
    (0, pos 0) sum (pos 0) c.loop-row-test.true (c.loop-row.invariant ∙ omega (arith, ints)) in
    let beyond : 2 ^ 127 ≤ unsigned_abs (term.1 *ℤ c.from-right_side.result) = simp to_z-of_z at large in
    let same = ap (λ (n : ℤ). unsigned_abs (term.1 *ℤ n)) side in
    omega arith)

pub returns-in_err-sum-clause-too_large : goal.returns-in_err-sum-clause-too_large
returns-in_err-sum-clause-too_large c =
    let table = c.args.program.now.rows in
    let term = get_or c.args.rows.now c.loop-row.row-index (0, pos 0) in
    let sum = to_z w128 c.loop-row.sum-bits in
    let fits_row : SFits w128 term.1 = search rules in
    let fits_side : SFits w64 c.right_side_at.result = search rules in
    let fits_from : SFits w128 c.from-right_side.result = search rules in
    let widened = simp to_z-of_z at c.from-right_side.ensures in
    let side : c.from-right_side.result ≡ right_side_at table term.0 = widened ∙ c.right_side_at.ensures in
    let fits_product : SFits w128 c.in_ok-product.product = search rules in
    let of_product = simp to_z-of_z at c.in_ok-product.ensures.value in
    let product : c.in_ok-product.product ≡ term.1 *ℤ right_side_at table term.0 = of_product ∙ ap (λ (n : ℤ). term.1 *ℤ n) side in
    let size : unsigned_abs (term.1 *ℤ right_side_at table term.0) ≡ unsigned_abs term.1 * unsigned_abs (right_side_at table term.0) =
    unsigned_abs-mul term.1 (right_side_at table term.0) in
    let same = ap unsigned_abs product in
    too-large-passed ℤ c.from_residual-in_err-sum.result c.in_err-sum.field-0.0 c.from_residual-in_err-sum.ensures.1 c.in_err-sum.ensures.too_large
    (λ large.
    let within_all = step-within (λ (t : ℕ × ℤ). t.1 *ℤ right_side_at table t.0)
    (λ (t : ℕ × ℤ). unsigned_abs t.1 * unsigned_abs (right_side_at table t.0)) (row-right-within table) c.args.rows.now c.loop-row.row-index
    (0, pos 0) sum (pos 0) c.loop-row-test.true (c.loop-row.invariant ∙ omega (arith, ints)) in
    let beyond : 2 ^ 127 ≤ unsigned_abs sum + unsigned_abs c.in_ok-product.product = simp to_z-of_z at large in
    omega arith)
