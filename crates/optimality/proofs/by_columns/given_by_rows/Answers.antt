use Rattle.std.proofs.Common.{rules}
use Rattle.std.proofs.lemmas.Int.{to_z-of_z}
use mir.Syntax.{w64, w128}
use mir.Val.{SFits, to_z}
use Rattle.optimality.proofs.ByColumnFacts.{entry-added}
use Rattle.optimality.proofs.by_columns.given_by_rows.Goals as goal

pub loop-i-preserved : goal.loop-i-preserved
loop-i-preserved c =
    let fits : SFits w128 c.in_ok-sum.sum = search rules in
    let fits_multiplier : SFits w64 c.number_at.result = search rules in
    let fits_number : SFits w64 c.entry-row.result.1 = search rules in
    let added = simp to_z-of_z at c.in_ok-sum.ensures in
    simp to_z-of_z (entry-added c.args.multipliers.now c.args.entries.now c.loop-i.i c.entry-row.result (to_z w128 c.loop-i.sum-bits)
    c.in_ok-sum.sum c.number_at.result _ c.entry-row.ensures c.number_at.ensures added c.loop-i.invariant)
