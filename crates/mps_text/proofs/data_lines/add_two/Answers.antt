use Rattle.std.proofs.Common.{[]}
use Rattle.byte_sinks.proofs.AddingFacts.{Adds-then, Adds-to}
use Rattle.mps_text.proofs.LineByteFacts.{two_parts}
use Rattle.mps_text.proofs.data_lines.add_two.Goals as goal

pub returns : goal.returns
returns g c = Adds-to (Adds-then c.add_field.ensures (Adds-then c.add_field-2.ensures c.add.ensures)) (two_parts c.args.a.now c.args.b.now [])
