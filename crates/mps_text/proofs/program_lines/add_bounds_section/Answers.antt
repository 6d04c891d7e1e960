use Rattle.std.proofs.Common.{◌∙◌}
use Rattle.byte_sinks.proofs.AddingFacts.{Adds-then, Adds-to}
use Rattle.mps_text.proofs.TextByteFacts.{where_any-some}
use Rattle.mps_text.proofs.program_lines.add_bounds_section.Goals as goal

pub returns : goal.returns
returns g c = Adds-to (Adds-then c.add.ensures c.add_bounds.ensures) (where_any-some c.args.parts.now.columns _ (λ e. c.if-len-eq0.false (c.len.ensures ∙ e)))
