use Rattle.std.proofs.Common.{◌≡◌, List, rules, subst}
use Rattle.std.proofs.lemmas.Option.{IfSome_then}
use Rattle.optimality.specs.Certificates.{Form}
use Rattle.optimality.specs.Adding.{AreGivenMore}
use Rattle.optimality.specs.inside.Adding.{rows_given}
use Rattle.optimality.specs.RowForms.{forms_held, row_forms}
use Rattle.optimality.proofs.LeafFacts.{rows-have}
use Rattle.optimality.proofs.by_columns.add_rows.Goals as goal

pub returns-in-Some : goal.returns-in-Some
returns-in-Some c =
    let p = c.args.checker.now.program.now in
    let rows = c.args.rows.now in
    let held : forms_held c.as_slice.result.now ≡ row_forms p = search rules in
    IfSome_then c.add_rows.result c.add_rows.ensures
    (λ _ more. rows-have p rows c.args.sums.now c.add_rows.new.sums c.well_formed-in-Some.ensures
    (subst (λ (fs : List Form). AreGivenMore (rows_given rows fs) c.args.sums.now c.add_rows.new.sums) held more))
