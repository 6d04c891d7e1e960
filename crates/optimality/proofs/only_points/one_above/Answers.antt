use Rattle.std.proofs.Common.{◌≡◌, ◌<◌, ◌≤◌, ◌^◌, ◌+ℤ◌, add-one, arith, rules}
use Rattle.std.specs.Prelude.{unsigned_abs}
use Rattle.std.proofs.lemmas.Int.{ints, to_z-of_z}
use mir.Syntax.{w64, w128}
use mir.Val.{SFits, to_z}
use Rattle.optimality.proofs.ColumnSizeFacts.{sum-room}
use Rattle.optimality.proofs.SizeFacts.{abs-sum}
use Rattle.optimality.proofs.ProductBoundFacts.{abs-within}
use Rattle.optimality.proofs.OnlyFacts.{cost-at}
use Rattle.optimality.proofs.only_points.one_above.Goals as goal
use Rattle.optimality.proofs.only_points.one_above.Goals.{then-value, else-value}

pub overflow_add-sum : goal.overflow_add-sum
overflow_add-sum c =
    let fits : SFits w64 c.cost-cost.result = search rules in
    let fits_from : SFits w128 c.from-sum.result = search rules in
    let number : c.from-sum.result ≡ c.cost-cost.result = simp to_z-of_z at c.from-sum.ensures in
    let small = abs-within c.cost-cost.result fits in
    let room : c.column_count-column-end.result < 2 ^ 64 = search rules in
    let cost : unsigned_abs c.from-sum.result ≤ 2 ^ 63 = rw number small in
    simp to_z-of_z (sum-room (to_z w128 c.loop-column.sum-bits) c.from-sum.result c.loop-column.column c.column_count-column-end.result
    c.loop-column.invariant.1 cost c.loop-column-test.true room)

pub loop-column-preserved : goal.loop-column-preserved
loop-column-preserved c =
    let sum = to_z w128 c.loop-column.sum-bits in
    let cost = c.cost-cost.result in
    let fits : SFits w64 cost = search rules in
    let costs = cost-at c.loop-column.column c.args.program.now.columns c.args.values.now cost c.value.result c.cost-cost.ensures c.value.ensures in
    let so_far = c.loop-column.invariant.0 in
    let few = c.loop-column.invariant.1 in
    elim c.if-value.branch [
      | then-value w ↦
          (let number : w.from-sum.result ≡ cost = simp to_z-of_z at w.from-sum.ensures in
          let fits_from : SFits w128 w.from-sum.result = search rules in
          let small : unsigned_abs w.from-sum.result ≤ 2 ^ 63 = rw number (abs-within cost fits) in
          let room : c.column_count-column-end.result < 2 ^ 64 = search rules in
          let fits_sum : SFits w128 (sum +ℤ w.from-sum.result) =
          sum-room sum w.from-sum.result c.loop-column.column c.column_count-column-end.result few small c.loop-column-test.true room in
          let is : to_z w128 c.if-value.sum-bits ≡ sum +ℤ w.from-sum.result = simp to_z-of_z at w.sum-is in
          let own = rw w.if-value.true at costs in
          let both = abs-sum sum w.from-sum.result in
          rw is (rw add-one (omega (arith, ints)), omega arith))
      | else-value w ↦
          (let own = rw w.if-value.false at costs in
          rw w.sum-is (rw add-one (omega (arith, ints)), omega arith))
    ]
