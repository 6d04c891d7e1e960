use Rattle.std.proofs.Common.{◌∙◌, sym}
use Rattle.program_rows.specs.Program.{TableColumn}
use Rattle.program_rows.proofs.LookupFacts.{step, found_here}
use Rattle.optimality.proofs.terms.search.Goals as goal

pub returns-then-is_same : goal.returns-then-is_same
returns-then-is_same c = found_here (λ (c : TableColumn). c.name) c.args.name.now c.args.program.now.columns c.loop-column.column
    c.column_name.result.now c.column_name.ensures (sym c.is_same.ensures ∙ c.if-is_same.true) c.loop-column.invariant

pub loop-column-preserved : goal.loop-column-preserved
loop-column-preserved c = step (λ (c : TableColumn). c.name) c.args.name.now c.args.program.now.columns c.loop-column.column
    c.column_name.result.now c.column_name.ensures (sym c.is_same.ensures ∙ c.if-is_same.false) c.loop-column.invariant
