use Rattle.std.proofs.Common.{◌∙◌, ap}
use Rattle.std.specs.Prelude.{codes}
use Rattle.byte_sinks.proofs.AddingFacts.{Adds-to}
use Rattle.input_faults.specs.FaultObjects.{next_text}
use Rattle.input_faults.proofs.objects.add_uncut.Goals as goal

pub returns : goal.returns
returns g c = Adds-to c.add_text.ensures (ap (next_text (codes "fault")) (c.as_bytes.ensures.value ∙ c.uncut_name.ensures))
