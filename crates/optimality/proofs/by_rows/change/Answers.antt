use Rattle.std.proofs.Common.{◌≡◌, ◌∙◌, ◌+◌, ◌<◌, ◌≤◌, ◌^◌, ap, ap₂, arith, length, pos, rules, ℤ, ◌+ℤ◌}
use Rattle.std.specs.Prelude.{◌*ℤ◌, ◌-ℤ◌, unsigned_abs}
use Rattle.std.proofs.lemmas.Int.{to_z-of_z}
use Rattle.std.proofs.lemmas.Result.{IfOk-weaker}
use mir.Syntax.{w64, w128}
use mir.Val.{SFits}
use Rattle.optimality.specs.Reduced.{least_part}
use Rattle.optimality.specs.Sizes.{costs_size}
use Rattle.optimality.proofs.ColumnSizeFacts.{cost-size, part-apart, scaled-size}
use Rattle.optimality.proofs.LeafFacts.{change-is}
use Rattle.optimality.proofs.StopFacts.{too-large-passed, too-large-weaker}
use Rattle.optimality.proofs.by_rows.change.Goals as goal

pub returns-clause-value : goal.returns-clause-value
returns-clause-value c =
    let fits_number : SFits w128 c.args.number = c.ranges.number in
    let fits_cost : SFits w64 c.cost.result = search rules in
    let fits_product : SFits w128 c.scaled-cost.result = search rules in
    let fits_reduced : SFits w128 c.in_ok-reduced.reduced = search rules in
    let fits_now : SFits w128 c.least_part.result = search rules in
    let fits_was : SFits w128 c.least_part-2.result = search rules in
    let product = simp to_z-of_z at c.scaled-cost.ensures in
    let reduced = simp to_z-of_z at c.in_ok-reduced.ensures.value in
    let now = simp to_z-of_z at c.least_part.ensures in
    let was = simp to_z-of_z at c.least_part-2.ensures in
    let minus = simp to_z-of_z at c.minus.ensures.value in
    IfOk-weaker c.minus.result _ _ (λ n e. change-is c.args.program.now.columns (pos c.args.scale) c.args.column c.args.number
    c.bounds-bounds.result c.cost.result c.scaled-cost.result c.in_ok-reduced.reduced c.least_part.result c.least_part-2.result n
    c.bounds-bounds.ensures c.cost.ensures product reduced now was e) minus

pub returns-in_err-reduced-clause-too_large : goal.returns-in_err-reduced-clause-too_large
returns-in_err-reduced-clause-too_large c =
    let cs = c.args.program.now.columns in
    let fits_number : SFits w128 c.args.number = c.ranges.number in
    let fits_cost : SFits w64 c.cost.result = search rules in
    let fits_product : SFits w128 c.scaled-cost.result = search rules in
    let product : c.scaled-cost.result ≡ pos c.args.scale *ℤ c.cost.result = simp to_z-of_z at c.scaled-cost.ensures in
    let cost = scaled-size c.args.scale (costs_size cs) c.cost.result (cost-size cs c.args.column c.cost.result c.cost.ensures) in
    let size : unsigned_abs c.scaled-cost.result ≡ unsigned_abs (pos c.args.scale *ℤ c.cost.result) = ap unsigned_abs product in
    let within : c.args.column < length cs = search rules in
    too-large-passed ℤ c.from_residual.result c.in_err-reduced.field-0.0 c.from_residual.ensures.1 c.in_err-reduced.ensures.too_large
    (λ large. let reached : 2 ^ 127 ≤ unsigned_abs c.scaled-cost.result + unsigned_abs c.args.number = simp to_z-of_z at large in (within, omega arith))

pub returns-clause-too_large : goal.returns-clause-too_large
returns-clause-too_large c =
    let cs = c.args.program.now.columns in
    let fits_number : SFits w128 c.args.number = c.ranges.number in
    let fits_product : SFits w128 c.scaled-cost.result = search rules in
    let fits_reduced : SFits w128 c.in_ok-reduced.reduced = search rules in
    let fits_now : SFits w128 c.least_part.result = search rules in
    let fits_was : SFits w128 c.least_part-2.result = search rules in
    let reduced : c.in_ok-reduced.reduced ≡ c.scaled-cost.result +ℤ c.args.number = simp to_z-of_z at c.in_ok-reduced.ensures.value in
    let now : c.least_part.result ≡ least_part c.bounds-bounds.result c.in_ok-reduced.reduced = simp to_z-of_z at c.least_part.ensures in
    let was : c.least_part-2.result ≡ least_part c.bounds-bounds.result c.scaled-cost.result = simp to_z-of_z at c.least_part-2.ensures in
    let within : c.args.column < length cs = search rules in
    let small = part-apart c.bounds-bounds.result c.scaled-cost.result c.args.number in
    let is : unsigned_abs (c.least_part.result -ℤ c.least_part-2.result)
    ≡ unsigned_abs (least_part c.bounds-bounds.result (c.scaled-cost.result +ℤ c.args.number) -ℤ least_part c.bounds-bounds.result
    c.scaled-cost.result) =
    ap₂ (λ (a b : ℤ). unsigned_abs (a -ℤ b)) (now ∙ ap (λ (n : ℤ). least_part c.bounds-bounds.result n) reduced) was in
    too-large-weaker c.minus.result (simp to_z-of_z at c.minus.ensures.too_large)
    (λ large. let reached : 2 ^ 127 ≤ unsigned_abs (c.least_part.result -ℤ c.least_part-2.result) = large in (within, omega arith))
