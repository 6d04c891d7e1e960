use Rattle.std.proofs.Common.{append_assoc}
use Rattle.byte_sinks.proofs.AddingFacts.{Adds-then, Adds-to}
use Rattle.input_faults.proofs.detail.add_place.Goals as goal

pub returns : goal.returns
returns g c =
    Adds-to (Adds-then c.add_wording.ensures (Adds-then c.add_shown.ensures (Adds-then c.add.ensures c.add_cause.ensures))) (simp append_assoc)
