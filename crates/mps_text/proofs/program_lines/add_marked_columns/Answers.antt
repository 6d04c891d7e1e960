use Rattle.std.proofs.Common.{◌∙◌}
use Rattle.byte_sinks.proofs.AddingFacts.{Adds-then, Adds-to}
use Rattle.mps_text.proofs.TextByteFacts.{where_any-some}
use Rattle.mps_text.proofs.program_lines.add_marked_columns.Goals as goal

pub returns : goal.returns
returns g c =
    let columns = rw (c.as_slice.ensures.value, c.as_slice-2.ensures.value) at c.add_columns.ensures in
    Adds-to (Adds-then (Adds-then c.add.ensures columns) c.add-2.ensures)
    (where_any-some c.args.parts.now.columns _ (λ e. c.if-len-eq0.false (c.len.ensures ∙ e)))
