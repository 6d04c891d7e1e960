use Rattle.byte_sinks.proofs.AddingFacts.{Adds-then, Adds-to}
use Rattle.mps_text.proofs.LineByteFacts.{three_parts}
use Rattle.mps_text.proofs.data_lines.add_three.Goals as goal

pub returns : goal.returns
returns g c = Adds-to (Adds-then c.add_field.ensures (Adds-then c.add_field-2.ensures (Adds-then c.add_field-3.ensures c.add.ensures)))
    (three_parts c.args.a.now c.args.b.now c.args.c.now)
