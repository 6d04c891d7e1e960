use Rattle.std.proofs.Common.{◌∙◌}
use Rattle.std.specs.Prelude.{bytes_eq}
use Rattle.std.proofs.lemmas.Option.{slice_get-map}
use Rattle.std.proofs.lemmas.Map.Keys.{IsDistinct-tail}
use Rattle.program_rows.specs.Program.{TableRow}
use Rattle.program_rows.specs.ProgramNames.{row_names}
use Rattle.program_rows.proofs.AddedNameFacts.{one_more}
use Rattle.optimality.proofs.terms.row_names.Goals as goal

pub loop-row-preserved : goal.loop-row-preserved
loop-row-preserved c =
    let named = slice_get-map (λ (r : TableRow). r.name) c.args.program.now.rows c.loop-row.row ∙ c.row_name.ensures in
    let distinct = IsDistinct-tail bytes_eq c.args.program.now.objective (row_names c.args.program.now) c.well_formed-2.ensures.rows_differ in
    one_more (row_names c.args.program.now) c.loop-row.names.keys c.insert.new.self.keys c.row_name.result c.loop-row.row distinct
    c.loop-row.invariant named c.in_ok-insert.ensures.keys
