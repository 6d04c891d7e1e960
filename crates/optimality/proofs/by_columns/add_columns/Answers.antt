use Rattle.std.proofs.Common.{◌∙◌, ◌≤◌, arith, length, rules}
use Rattle.std.proofs.lemmas.Int.{to_z-of_z}
use mir.Syntax.{w64, w128}
use mir.Val.{SFits}
use Rattle.optimality.proofs.ByColumnFacts.{columns-end, columns-step}
use Rattle.optimality.proofs.by_columns.add_columns.Goals as goal

pub loop-column-preserved : goal.loop-column-preserved
loop-column-preserved c =
    let fits : SFits w64 c.in_ok-narrow.field-0 = search rules in
    let fits_given : SFits w128 c.in_ok-given.given = search rules in
    let narrow = simp to_z-of_z at c.in_ok-narrow.ensures in
    let added = simp to_z-of_z at c.in_ok-add_at.ensures in
    columns-step c.args.multipliers.now c.loop-column.column c.args.program.now.columns c.entries.result c.in_ok-narrow.field-0
    c.args.sums.now c.loop-column.sums c.add_at.new.sums c.entries.ensures (narrow ∙ c.in_ok-given.ensures) added
    c.loop-column.invariant

pub returns : goal.returns
returns c =
    let past : length c.args.program.now.columns ≤ c.loop-column.column = omega (arith, c.loop-column-test.false, c.column_count-column-end.ensures) in
    columns-end c.args.multipliers.now c.loop-column.column c.args.program.now.columns c.args.sums.now c.loop-column.sums past c.loop-column.invariant
