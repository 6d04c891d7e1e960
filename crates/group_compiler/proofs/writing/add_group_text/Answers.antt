use Rattle.byte_sinks.proofs.AddingFacts.{Adds-then}
use Rattle.group_compiler.proofs.writing.add_group_text.Goals as goal

pub returns : goal.returns
returns g c = Adds-then c.add_section.ensures (Adds-then c.add_section-2.ensures (Adds-then c.add_section-3.ensures c.add_section-4.ensures))
