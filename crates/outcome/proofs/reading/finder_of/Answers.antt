use Rattle.std.proofs.Common.{◌∙◌}
use Rattle.std.proofs.lemmas.Option.{slice_get-map}
use Rattle.program_rows.specs.Program.{TableColumn}
use Rattle.program_rows.specs.ProgramNames.{column_names}
use Rattle.program_rows.proofs.AddedNameFacts.{one_more}
use Rattle.outcome.proofs.reading.finder_of.Goals as goal

pub loop-column-preserved : goal.loop-column-preserved
loop-column-preserved c =
    let named = slice_get-map (λ (d : TableColumn). d.name) c.args.program.now.columns c.loop-column.column ∙ c.column_name.ensures in
    one_more (column_names c.args.program.now) c.loop-column.names.keys c.insert.new.self.keys c.column_name.result c.loop-column.column
    c.requires c.loop-column.invariant named c.in_ok-insert.ensures.keys
