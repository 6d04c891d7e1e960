use Rattle.std.proofs.Common.{refl}
use Rattle.byte_sinks.proofs.AddingFacts.{Adds-to}
use Rattle.input_faults.proofs.PlaceFacts.{no-hint-on}
use Rattle.input_faults.proofs.placed.add_hint_on.Goals as goal

pub returns-in-BeforeFirst : goal.returns-in-BeforeFirst
returns-in-BeforeFirst g c = Adds-to c.add_gather.ensures (rw (c.in-BeforeFirst.is) refl)

pub returns-in_default : goal.returns-in_default
returns-in_default g c = Adds-to c.add.ensures (no-hint-on c.args.name.now c.args.fault c.in_default.not-BeforeFirst)
