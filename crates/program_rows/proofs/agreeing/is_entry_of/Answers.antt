use Rattle.std.proofs.Common.{◌≡◌, ◌∙◌, ap, map, arith, rules, w64}
use Rattle.std.specs.Prelude.{bytes_eq, nat_eq}
use Rattle.std.specs.Ordering.{int_eq}
use Rattle.std.proofs.lemmas.List.{length-map}
use mir.Val.{of_z}
use Rattle.program_rows.specs.Program.{TableRow}
use Rattle.program_rows.specs.Parts.{shown_row, shown_column}
use Rattle.program_rows.specs.Points.{coefficient_at}
use Rattle.program_rows.specs.Same.{coefficient_in}
use Rattle.program_rows.proofs.LookupFacts.{place_found}
use Rattle.program_rows.proofs.agreeing.is_entry_of.Goals as goal

pub returns-then-place-others : goal.returns-then-place-others
returns-then-place-others c =
    let others = map shown_row c.args.others.now in
    let column = shown_column c.args.column.now in
    let count = length-map c.args.others.now shown_row in
    let is : c.coefficient_of.result ≡ coefficient_in others column c.name_or_none.result.now =
    c.coefficient_of.ensures
    ∙ place_found (λ (r : TableRow). bytes_eq c.name_or_none.result.now r.name) (λ place. coefficient_at place column)
    others c.row_place-place.result c.row_place-place.ensures (omega arith) in
    let test : nat_eq (of_z w64 c.coefficient_of.result) (of_z w64 c.args.entry.now.1) ≡ int_eq c.coefficient_of.result c.args.entry.now.1 = search rules in
    test ∙ ap (λ n. int_eq n c.args.entry.now.1) is
    ∙ ap (λ name. int_eq (coefficient_in others column name) c.args.entry.now.1) c.name_or_none.ensures
