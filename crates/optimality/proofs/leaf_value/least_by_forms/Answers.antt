use Rattle.std.proofs.Common.{◌≡◌, ◌∙◌, ◌≤◌, ◌^◌, ap, ap₂, arith, length, pos, rules, ℤ, ◌+ℤ◌}
use Rattle.std.specs.Prelude.{◌*ℤ◌, unsigned_abs}
use Rattle.std.proofs.lemmas.Int.{to_z-of_z}
use Rattle.std.proofs.lemmas.Result.{IfOk-weaker}
use mir.Syntax.{w128}
use mir.Val.{SFits}
use Rattle.optimality.specs.Sizes.{costs_size}
use Rattle.optimality.specs.Adding.{number_at, least_alone}
use Rattle.optimality.specs.inside.Adding.{least_with}
use Rattle.optimality.specs.Holding.{cuts_of}
use Rattle.optimality.proofs.ColumnSizeFacts.{alone-size, scaled-size, sizes-given}
use Rattle.optimality.proofs.LeafFacts.{least-is}
use Rattle.optimality.proofs.StopFacts.{too-large-passed, too-large-weaker}
use Rattle.optimality.proofs.leaf_value.least_by_forms.Goals as goal

pub returns-clause-value : goal.returns-clause-value
returns-clause-value c =
    let p = c.args.checker.now.program.now in
    let leaf = c.args.leaf.now in
    let numbers = c.reduce.new.sums.numbers.items in
    let fits_from : SFits w128 c.from.result = search rules in
    let fits_alone : SFits w128 c.in_ok-alone.alone = search rules in
    let fits_before : SFits w128 c.args.all.now.alone = search rules in
    let wide : c.from.result ≡ pos leaf.scale = c.from.ensures in
    let times = simp to_z-of_z at c.in_ok-alone.ensures.value in
    let alone : c.in_ok-alone.alone ≡ pos leaf.scale *ℤ least_alone p.columns = times ∙ ap₂ (λ (a b : ℤ). a *ℤ b) wide c.requires.all.alone in
    IfOk-weaker c.least_total.result _ _ (λ n e. least-is p leaf.scale leaf.multipliers.items (cuts_of c.args.splits.now) c.args.rows.now
    numbers c.well_formed-2.ensures c.in_ok-reduce.ensures.value n
    (e ∙ ap (λ (a : ℤ). a +ℤ least_with (pos leaf.scale) (number_at numbers) p.columns) alone)) (simp to_z-of_z at c.least_total.ensures.value)

pub returns-in_err-alone-clause-too_large : goal.returns-in_err-alone-clause-too_large
returns-in_err-alone-clause-too_large c =
    let p = c.args.checker.now.program.now in
    let leaf = c.args.leaf.now in
    let fits_from : SFits w128 c.from.result = search rules in
    let fits_before : SFits w128 c.args.all.now.alone = search rules in
    let is : unsigned_abs (c.from.result *ℤ c.args.all.now.alone) ≡ unsigned_abs (pos leaf.scale *ℤ least_alone p.columns) =
    ap₂ (λ (a b : ℤ). unsigned_abs (a *ℤ b)) c.from.ensures c.requires.all.alone in
    let small = scaled-size leaf.scale (costs_size p.columns) (least_alone p.columns) (alone-size p.columns) in
    too-large-passed ℤ c.from_residual.result c.in_err-alone.field-0.0 c.from_residual.ensures.1 c.in_err-alone.ensures.too_large
    (λ large. let reached : 2 ^ 127 ≤ unsigned_abs (c.from.result *ℤ c.args.all.now.alone) = simp to_z-of_z at large in omega arith)

pub least_total-requires : goal.least_total-requires
least_total-requires c =
    let p = c.args.checker.now.program.now in
    let leaf = c.args.leaf.now in
    let fits_from : SFits w128 c.from.result = search rules in
    let fits_alone : SFits w128 c.in_ok-alone.alone = search rules in
    let fits_before : SFits w128 c.args.all.now.alone = search rules in
    let times = simp to_z-of_z at c.in_ok-alone.ensures.value in
    let alone : c.in_ok-alone.alone ≡ pos leaf.scale *ℤ least_alone p.columns = times ∙ ap₂ (λ (a b : ℤ). a *ℤ b) c.from.ensures c.requires.all.alone in
    let small = scaled-size leaf.scale (costs_size p.columns) (least_alone p.columns) (alone-size p.columns) in
    simp to_z-of_z (rw alone small)

pub returns-clause-size : goal.returns-clause-size
returns-clause-size c =
    let p = c.args.checker.now.program.now in
    let leaf = c.args.leaf.now in
    let given = sizes-given p c.well_formed-2.ensures (length p.columns) leaf.multipliers.items (cuts_of c.args.splits.now) c.args.rows.now
    c.reduce.new.sums.numbers.items c.in_ok-reduce.ensures.value in
    IfOk-weaker c.least_total.result _ _ (λ n small. omega (arith, small, given)) c.least_total.ensures.size

pub returns-clause-too_large : goal.returns-clause-too_large
returns-clause-too_large c =
    let p = c.args.checker.now.program.now in
    let leaf = c.args.leaf.now in
    let given = sizes-given p c.well_formed-2.ensures (length p.columns) leaf.multipliers.items (cuts_of c.args.splits.now) c.args.rows.now
    c.reduce.new.sums.numbers.items c.in_ok-reduce.ensures.value in
    too-large-weaker c.least_total.result c.least_total.ensures.too_large (λ large. omega (arith, large, given))
