use Rattle.std.proofs.Common.{◌≡◌, ◌∙◌, ◌+ℤ◌, ap, cond, pos, slice_index_or, false, rules, w64}
use Rattle.std.proofs.lemmas.Int.{to_z-of_z}
use mir.Syntax.{w128}
use mir.Val.{SFits, to_z, of_z}
use Rattle.program_rows.specs.Program.{TableColumn}
use Rattle.program_rows.proofs.SumFacts.{sum_step, sum_bounds}
use Rattle.program_rows.proofs.costs.cost_sum.Goals as goal

pub loop-i-preserved : goal.loop-i-preserved
loop-i-preserved c =
    let fits : SFits w128 c.add_at_one-sum.result = search rules in
    let fits_cost : SFits w64 c.cost.result = search rules in
    let same : to_z w128 (of_z w128 c.add_at_one-sum.result) ≡ c.add_at_one-sum.result = to_z-of_z w128 c.add_at_one-sum.result fits in
    let number : to_z w64 (of_z w64 c.cost.result) ≡ c.cost.result = to_z-of_z w64 c.cost.result fits_cost in
    let value = slice_index_or c.args.values.now c.loop-i.i false in
    let sum = to_z w128 c.loop-i.sum-bits in
    let next : c.add_at_one-sum.result ≡ sum +ℤ cond value c.cost.result (pos 0) =
    c.add_at_one-sum.ensures ∙ ap (λ n. sum +ℤ cond value n (pos 0)) number in
    let bounds = sum_bounds value c.cost.result sum c.add_at_one-sum.result c.loop-i.i c.cost.type_inv c.loop-i.invariant.0 c.loop-i.invariant.1 next in
    rw same (
      bounds.0,
      bounds.1,
      sum_step (λ (x : TableColumn). x.cost) c.args.columns.now c.args.values.now c.loop-i.i c.cost.result false
          sum c.add_at_one-sum.result _ c.cost.ensures c.loop-i-test.true next c.loop-i.invariant.2,
    )
