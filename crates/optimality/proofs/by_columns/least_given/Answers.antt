use Rattle.std.proofs.Common.{◌≤◌, arith, length, rules}
use Rattle.std.proofs.lemmas.Int.{to_z-of_z}
use mir.Syntax.{w64, w128}
use mir.Val.{SFits, to_z}
use Rattle.optimality.specs.Adding.{number_at}
use Rattle.optimality.proofs.ByColumnFacts.{least-end, least-step}
use Rattle.optimality.proofs.LeafFacts.{with_given}
use Rattle.optimality.proofs.by_columns.least_given.Goals as goal

pub loop-column-preserved : goal.loop-column-preserved
loop-column-preserved c =
    let fits_scale : SFits w64 c.args.scale = c.ranges.scale in
    let fits : SFits w128 c.in_ok-sum.sum = search rules in
    let fits_part : SFits w128 c.in_ok-part_of.field-0 = search rules in
    let added = simp to_z-of_z at c.in_ok-sum.ensures in
    simp to_z-of_z (least-step (with_given c.args.scale (number_at c.args.given.now)) c.loop-column.column c.args.program.now.columns
    (to_z w128 c.loop-column.sum-bits) c.in_ok-sum.sum c.in_ok-part_of.field-0 _ (simp to_z-of_z at c.in_ok-part_of.ensures) added.1
    (simp to_z-of_z at c.loop-column.invariant))

pub returns : goal.returns
returns c =
    let fits_scale : SFits w64 c.args.scale = c.ranges.scale in
    let before = simp to_z-of_z at c.loop-column.invariant in
    let past : length c.args.program.now.columns ≤ c.loop-column.column = omega (arith, c.loop-column-test.false, c.column_count-column-end.ensures) in
    least-end (with_given c.args.scale (number_at c.args.given.now)) c.loop-column.column c.args.program.now.columns
    (to_z w128 c.loop-column.sum-bits) _ past before
