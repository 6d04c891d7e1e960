use Rattle.std.proofs.Common.{◌∙◌, sym}
use Rattle.program_rows.specs.Program.{TableColumn}
use Rattle.program_rows.proofs.LookupFacts.{guessed}
use Rattle.program_rows.proofs.lookups.column_place.Goals as goal

pub returns-then-is_same_name : goal.returns-then-is_same_name
returns-then-is_same_name c = guessed (λ (c : TableColumn). c.name) c.args.name.now c.args.columns.now c.args.guess c.name.result.now
    c.requires c.name.ensures (sym c.is_same_name.ensures ∙ c.if-is_same_name.true)
