use Rattle.std.proofs.Common.{refl}
use Rattle.byte_sinks.proofs.AddingFacts.{Adds-then, Adds-to}
use Rattle.input_faults.proofs.PlaceFacts.{no-other}
use Rattle.input_faults.proofs.placed.add_other.Goals as goal

pub returns-in-AnotherForm : goal.returns-in-AnotherForm
returns-in-AnotherForm g c = Adds-to (Adds-then c.add.ensures (Adds-then c.add_file_name.ensures c.add-in-AnotherForm.ensures))
    (rw (c.in-AnotherForm.is, c.file_name.ensures) refl)

pub returns-in_default : goal.returns-in_default
returns-in_default g c = Adds-to c.add-in_default.ensures (no-other c.args.texts.now c.args.refusal.now c.in_default.not-AnotherForm)
