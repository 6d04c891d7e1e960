use Rattle.std.proofs.Common.{◌≡◌, ◌+ℤ◌, cond, pos, slice_index_or, false, rules, arith}
use Rattle.std.proofs.lemmas.Int.{to_z-of_z}
use mir.Syntax.{w128}
use mir.Val.{SFits, to_z, of_z}
use Rattle.program_rows.specs.Points.{coefficient_at}
use Rattle.program_rows.proofs.SumFacts.{sum_step, number_there, near_low, near_high}
use Rattle.program_rows.proofs.row_sums.row_sum.Goals as goal

pub loop-i-preserved : goal.loop-i-preserved
loop-i-preserved c =
    let fits : SFits w128 c.add_coefficient-sum.result = search rules in
    let same : to_z w128 (of_z w128 c.add_coefficient-sum.result) ≡ c.add_coefficient-sum.result = to_z-of_z w128 c.add_coefficient-sum.result fits in
    let sum = to_z w128 c.loop-i.sum-bits in
    let there = number_there (coefficient_at c.args.row) c.args.columns.now c.loop-i.i (omega arith) in
    let parsed = c.add_coefficient-sum.ensures in
    let next : c.add_coefficient-sum.result ≡ sum +ℤ cond (slice_index_or c.args.values.now c.loop-i.i false) there.0 (pos 0) = parsed.added there.0 there.1 in
    rw same (
      near_low sum c.add_coefficient-sum.result c.loop-i.i c.loop-i.invariant.0 parsed.low,
      near_high sum c.add_coefficient-sum.result c.loop-i.i c.loop-i.invariant.1 parsed.high,
      sum_step (coefficient_at c.args.row) c.args.columns.now c.args.values.now c.loop-i.i there.0 false sum c.add_coefficient-sum.result _
          there.1 c.loop-i-test.true next c.loop-i.invariant.2,
    )
