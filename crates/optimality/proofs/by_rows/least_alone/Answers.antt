use Rattle.std.proofs.Common.{◌+◌, ◌*◌, ◌<◌, ◌≤◌, ◌^◌, arith, refl, rules, ◌+ℤ◌}
use Rattle.std.specs.Prelude.{◌≡◌, Some, slice_get, unsigned_abs}
use Rattle.std.specs.Option.{option_map}
use Rattle.std.proofs.lemmas.Int.{to_z-of_z}
use mir.Syntax.{w128}
use mir.Val.{SFits, to_z}
use Rattle.program_rows.specs.Program.{TableColumn}
use Rattle.optimality.specs.Reduced.{least_part}
use Rattle.optimality.proofs.ColumnSizeFacts.{sum-room}
use Rattle.optimality.proofs.LeafFacts.{alone-step}
use Rattle.optimality.proofs.SizeFacts.{abs-sum}
use Rattle.optimality.proofs.by_rows.least_alone.Goals as goal

pub overflow_add-sum : goal.overflow_add-sum
overflow_add-sum c =
    let fits : SFits w128 c.least_part-sum.result = search rules in
    let size : unsigned_abs c.least_part-sum.result ≤ 2 ^ 63 = search rules in
    let room : c.column_count-column-end.result < 2 ^ 64 = search rules in
    let so_far : unsigned_abs (to_z w128 c.loop-column.sum-bits) ≤ 1 + c.loop-column.column * 2 ^ 63 = omega (arith, c.loop-column.invariant.1) in
    simp to_z-of_z (sum-room (to_z w128 c.loop-column.sum-bits) c.least_part-sum.result c.loop-column.column c.column_count-column-end.result
    so_far size c.loop-column-test.true room)

pub loop-column-preserved : goal.loop-column-preserved
loop-column-preserved c =
    let sum = to_z w128 c.loop-column.sum-bits in
    let part = c.least_part-sum.result in
    let fits : SFits w128 c.least_part-sum.result = search rules in
    let size : unsigned_abs c.least_part-sum.result ≤ 2 ^ 63 = search rules in
    let room : c.column_count-column-end.result < 2 ^ 64 = search rules in
    let part_at : option_map (λ (t : TableColumn). least_part t.bounds t.cost) (slice_get c.args.program.now.columns c.loop-column.column) ≡ Some part =
    search rules in
    let so_far : unsigned_abs sum ≤ 1 + c.loop-column.column * 2 ^ 63 = omega (arith, c.loop-column.invariant.1) in
    let fits_sum : SFits w128 (sum +ℤ part) = sum-room sum part c.loop-column.column c.column_count-column-end.result so_far
    size c.loop-column-test.true room in
    let both = abs-sum sum part in
    let within : unsigned_abs (sum +ℤ part) ≤ (c.loop-column.column + 1) * 2 ^ 63 = omega (arith, c.loop-column.invariant.1, size) in
    simp to_z-of_z (
      alone-step c.loop-column.column c.args.program.now.columns sum (sum +ℤ
          part) part _ part_at refl c.loop-column.invariant.0,
      within,
    )
