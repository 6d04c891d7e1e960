use Rattle.std.proofs.Common.{◌∙◌, ap, drop, fold, map, sym, ◌+◌}
use Rattle.std.proofs.lemmas.Option.{slice_get-map}
use Rattle.std.specs.Hash.DefaultHasher as sip
use Rattle.program_rows.specs.Program.{TableColumn}
use Rattle.program_rows.proofs.NameSetFacts.{folds_on}
use Rattle.program_rows.proofs.name_set.with_column_names.Goals as goal

pub loop-column-preserved : goal.loop-column-preserved
loop-column-preserved c =
    let names = map (λ (x : TableColumn). x.name) c.args.program.now.columns in
    let named = slice_get-map (λ (x : TableColumn). x.name) c.args.program.now.columns c.loop-column.column ∙ c.column_name.ensures in
    ap (λ h. fold sip.write h (drop (c.loop-column.column + 1) names)) c.write.ensures
    ∙ sym (folds_on sip.write c.loop-column.hasher names c.loop-column.column c.column_name.result.now named) ∙ c.loop-column.invariant
