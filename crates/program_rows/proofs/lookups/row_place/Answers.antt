use Rattle.std.proofs.Common.{◌∙◌, map, sym}
use Rattle.program_rows.specs.Parts.{shown_row}
use Rattle.program_rows.specs.Program.{TableRow}
use Rattle.program_rows.proofs.LookupFacts.{guessed}
use Rattle.program_rows.proofs.lookups.row_place.Goals as goal

pub returns-then-is_same_name : goal.returns-then-is_same_name
returns-then-is_same_name c = guessed (λ (r : TableRow). r.name) c.args.name.now (map shown_row c.args.rows.now) c.args.guess
    c.name_at.result.now c.requires c.name_at.ensures (sym c.is_same_name.ensures ∙ c.if-is_same_name.true)
