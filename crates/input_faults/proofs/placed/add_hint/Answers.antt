use Rattle.std.proofs.Common.{refl}
use Rattle.byte_sinks.proofs.AddingFacts.{Adds-to}
use Rattle.input_faults.proofs.PlaceFacts.{no-hint}
use Rattle.input_faults.proofs.placed.add_hint.Goals as goal

pub returns-in-Parts : goal.returns-in-Parts
returns-in-Parts g c = Adds-to c.add_hint_on.ensures (rw (c.in-Parts.is, c.file_name.ensures) refl)

pub returns-in_default : goal.returns-in_default
returns-in_default g c = Adds-to c.add.ensures (no-hint c.args.texts.now c.args.refusal.now c.in_default.not-Parts)
