use Rattle.std.proofs.Common.{◌∙◌, ap₂, refl, rules, ℤ, ◌+ℤ◌}
use Rattle.std.proofs.lemmas.Int.{to_z-of_z}
use mir.Syntax.{w64, w128}
use mir.Val.{SFits}
use Rattle.optimality.specs.Adding.{number_at}
use Rattle.optimality.proofs.LeafFacts.{given-cost}
use Rattle.optimality.proofs.by_columns.part_of.Goals as goal

pub returns : goal.returns
returns c =
    let fits_scale : SFits w64 c.args.scale = c.ranges.scale in
    let fits_cost : SFits w64 c.cost.result = search rules in
    let fits_given : SFits w64 c.number_at.result = search rules in
    let fits_from : SFits w128 c.from-given.result = search rules in
    let given = simp to_z-of_z at c.from-given.ensures in
    let sum = simp to_z-of_z at c.in_ok-reduced_cost.ensures in
    let reduced = given-cost c.args.scale c.args.program.now.columns c.args.column c.cost.result (number_at c.args.given.now c.args.column)
    c.in_ok-reduced_cost.reduced_cost c.cost.ensures (sum ∙ ap₂ (λ (a b : ℤ). a +ℤ b) (given ∙ c.number_at.ensures) refl) in
    search rules
