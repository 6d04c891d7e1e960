use Rattle.std.proofs.Common.{◌∙◌, sym}
use Rattle.program_rows.specs.Program.{TableColumn}
use Rattle.program_rows.proofs.LookupFacts.{step, found_here}
use Rattle.program_rows.proofs.lookups.search_column.Goals as goal

pub returns-then-is_same_name : goal.returns-then-is_same_name
returns-then-is_same_name c = found_here (λ (c : TableColumn). c.name) c.args.name.now c.args.columns.now c.loop-i.i c.name.result.now
    c.name.ensures (sym c.is_same_name.ensures ∙ c.if-is_same_name.true) c.loop-i.invariant

pub loop-i-preserved : goal.loop-i-preserved
loop-i-preserved c = step (λ (c : TableColumn). c.name) c.args.name.now c.args.columns.now c.loop-i.i c.name.result.now c.name.ensures
    (sym c.is_same_name.ensures ∙ c.if-is_same_name.false) c.loop-i.invariant
