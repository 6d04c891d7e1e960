use Rattle.std.proofs.Common.{◌++◌, ap₂}
use Rattle.std.specs.Prelude.{codes, flat_map}
use Rattle.byte_sinks.proofs.AddingFacts.{Adds-then, Adds-to}
use Rattle.input_faults.specs.Shown.{shown_byte}
use Rattle.input_faults.proofs.shown.add_shown.Goals as goal

pub returns : goal.returns
returns g c =
    Adds-to (Adds-then c.add.ensures (Adds-then c.add_shown_bytes.ensures c.add-2.ensures))
    (ap₂ (λ front closing. codes "'" ++ (flat_map shown_byte front ++ closing)) c.front.ensures c.closing.ensures)
