use Rattle.std.proofs.Common.{◌≡◌, ◌≤◌, ◌+◌, ◌*◌, ◌^◌, ◌∙◌, ap, ap₂, arith, get_or, pos, rules, subst, ℕ, ℤ, ◌+ℤ◌}
use Rattle.std.specs.Prelude.{◌*ℤ◌, unsigned_abs}
use Rattle.std.proofs.lemmas.Int.{ints, to_z-of_z, unsigned_abs-mul}
use mir.Syntax.{w128}
use mir.Val.{SFits, to_z}
use Rattle.optimality.specs.Certificates.{Cut}
use Rattle.optimality.specs.declared.checker.OpenSplit.{OpenSplit}
use Rattle.optimality.specs.Holding.{cut_of}
use Rattle.optimality.proofs.SizeFacts.{cut-right-within, cuts-step-within}
use Rattle.optimality.proofs.StepFacts.{cuts-right-step}
use Rattle.optimality.proofs.StopFacts.{too-large-passed}
use Rattle.optimality.proofs.by_rows.cuts_right.Goals as goal

pub returns-in_err-product-clause-too_large : goal.returns-in_err-product-clause-too_large
returns-in_err-product-clause-too_large c =
    let split = c.index-splits-i.result in
    let ys = c.args.multipliers.now in
    let y = get_or ys c.loop-i.i 0 in
    let most = (cut_of split).most in
    let sum = to_z w128 c.loop-i.sum-bits in
    let fits_from : SFits w128 c.from.result = search rules in
    let fits_most : SFits w128 c.most_of.result = search rules in
    let size : unsigned_abs (pos y *ℤ most) ≡ y * unsigned_abs most = unsigned_abs-mul (pos y) most in
    too-large-passed ℤ c.from_residual.result c.in_err-product.field-0.0 c.from_residual.ensures.1 c.in_err-product.ensures.too_large
    (λ large.
    let within_all = cuts-step-within (λ (e : ℕ × Cut). pos e.0 *ℤ e.1.most) (λ (e : ℕ × Cut). e.0 * unsigned_abs e.1.most) cut-right-within
    ys c.args.splits.now c.loop-i.i 0 split sum (pos 0) (search rules) (search rules) (c.loop-i.invariant ∙ omega (arith, ints)) in
    let beyond : 2 ^ 127 ≤ unsigned_abs (c.from.result *ℤ c.most_of.result) = simp to_z-of_z at large in
    let same = ap₂ (λ (a b : ℤ). unsigned_abs (a *ℤ b)) c.from.ensures c.most_of.ensures in
    let here : 2 ^ 126 ≤ unsigned_abs sum + y * unsigned_abs most = omega arith in
    let reached = subst (λ (s : OpenSplit). 2 ^ 126 ≤ unsigned_abs sum + y * unsigned_abs (cut_of s).most) c.index-splits-i.is here in
    omega arith)

pub returns-in_err-sum-clause-too_large : goal.returns-in_err-sum-clause-too_large
returns-in_err-sum-clause-too_large c =
    let split = c.index-splits-i.result in
    let ys = c.args.multipliers.now in
    let y = get_or ys c.loop-i.i 0 in
    let most = (cut_of split).most in
    let sum = to_z w128 c.loop-i.sum-bits in
    let fits_from : SFits w128 c.from.result = search rules in
    let fits_most : SFits w128 c.most_of.result = search rules in
    let size : unsigned_abs (pos y *ℤ most) ≡ y * unsigned_abs most = unsigned_abs-mul (pos y) most in
    let fits_product : SFits w128 c.in_ok-product.product = search rules in
    let of_product = simp to_z-of_z at c.in_ok-product.ensures.value in
    let product : c.in_ok-product.product ≡ pos y *ℤ most = of_product ∙ ap₂ (λ (a b : ℤ). a *ℤ b) c.from.ensures c.most_of.ensures in
    let same = ap unsigned_abs product in
    too-large-passed ℤ c.from_residual-in_err-sum.result c.in_err-sum.field-0.0 c.from_residual-in_err-sum.ensures.1 c.in_err-sum.ensures.too_large
    (λ large.
    let within_all = cuts-step-within (λ (e : ℕ × Cut). pos e.0 *ℤ e.1.most) (λ (e : ℕ × Cut). e.0 * unsigned_abs e.1.most) cut-right-within
    ys c.args.splits.now c.loop-i.i 0 split sum (pos 0) (search rules) (search rules) (c.loop-i.invariant ∙ omega (arith, ints)) in
    let beyond : 2 ^ 127 ≤ unsigned_abs sum + unsigned_abs c.in_ok-product.product = simp to_z-of_z at large in
    let here : 2 ^ 126 ≤ unsigned_abs sum + y * unsigned_abs most = omega arith in
    let reached = subst (λ (s : OpenSplit). 2 ^ 126 ≤ unsigned_abs sum + y * unsigned_abs (cut_of s).most) c.index-splits-i.is here in
    omega arith)

pub loop-i-preserved : goal.loop-i-preserved
loop-i-preserved c =
    let split = c.index-splits-i.result in
    let y = get_or c.args.multipliers.now c.loop-i.i 0 in
    let most = (cut_of split).most in
    let sum = to_z w128 c.loop-i.sum-bits in
    let fits : SFits w128 c.in_ok-sum.sum = search rules in
    let fits_from : SFits w128 c.from.result = search rules in
    let fits_most : SFits w128 c.most_of.result = search rules in
    let fits_product : SFits w128 c.in_ok-product.product = search rules in
    let of_product = simp to_z-of_z at c.in_ok-product.ensures.value in
    let product : c.in_ok-product.product ≡ pos y *ℤ most = of_product ∙ ap₂ (λ (a b : ℤ). a *ℤ b) c.from.ensures c.most_of.ensures in
    let of_sum = simp to_z-of_z at c.in_ok-sum.ensures.value in
    let added : c.in_ok-sum.sum ≡ sum +ℤ pos y *ℤ most = of_sum ∙ ap (λ (n : ℤ). sum +ℤ n) product in
    let next = subst (λ (s : OpenSplit). c.in_ok-sum.sum ≡ sum +ℤ pos y *ℤ (cut_of s).most) c.index-splits-i.is added in
    simp to_z-of_z (cuts-right-step c.args.multipliers.now c.args.splits.now c.loop-i.i 0 split sum c.in_ok-sum.sum _ (search rules)
    (search rules) next c.loop-i.invariant)
