use Rattle.std.proofs.Common.{◌∙◌, ℤ, Some, ap, sym, slice_get, rules, w64}
use Rattle.std.proofs.lemmas.Int.{to_z-of_z}
use mir.Val.{SFits}
use Rattle.program_rows.proofs.ColumnFacts.{column_parts}
use Rattle.program_rows.proofs.columns.Columns.column.Goals as goal

pub returns : goal.returns
returns c =
    let fits : SFits w64 c.cost.result = search rules in
    column_parts (slice_get c.args.self.now c.args.column) _ c.name.ensures c.bounds.ensures
    (c.cost.ensures ∙ ap (λ (n : ℤ). Some n) (sym (to_z-of_z w64 c.cost.result fits))) c.entries.ensures
