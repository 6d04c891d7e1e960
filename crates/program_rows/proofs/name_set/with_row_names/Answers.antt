use Rattle.std.proofs.Common.{◌∙◌, ap, drop, fold, map, sym, ◌+◌}
use Rattle.std.proofs.lemmas.Option.{slice_get-map}
use Rattle.std.specs.Hash.DefaultHasher as sip
use Rattle.program_rows.specs.Program.{TableRow}
use Rattle.program_rows.proofs.NameSetFacts.{folds_on}
use Rattle.program_rows.proofs.name_set.with_row_names.Goals as goal

pub loop-row-preserved : goal.loop-row-preserved
loop-row-preserved c =
    let names = map (λ (x : TableRow). x.name) c.args.program.now.rows in
    let named = slice_get-map (λ (x : TableRow). x.name) c.args.program.now.rows c.loop-row.row ∙ c.row_name.ensures in
    ap (λ h. fold sip.write h (drop (c.loop-row.row + 1) names)) c.write.ensures
    ∙ sym (folds_on sip.write c.loop-row.hasher names c.loop-row.row c.row_name.result.now named) ∙ c.loop-row.invariant
