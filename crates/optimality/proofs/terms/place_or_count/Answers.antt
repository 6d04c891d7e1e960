use Rattle.std.proofs.Common.{◌∙◌, sym}
use Rattle.program_rows.specs.Program.{TableColumn}
use Rattle.program_rows.proofs.LookupFacts.{guessed}
use Rattle.optimality.proofs.terms.place_or_count.Goals as goal

pub returns-then-is_same : goal.returns-then-is_same
returns-then-is_same c = guessed (λ (c : TableColumn). c.name) c.args.name.now c.args.program.now.columns c.args.guess
    c.column_name.result.now c.well_formed-2.ensures.columns_differ c.column_name.ensures (sym c.is_same.ensures ∙ c.if-is_same.true)
