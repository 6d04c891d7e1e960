use Rattle.std.proofs.Common.{◌++◌, ap}
use Rattle.byte_sinks.proofs.AddingFacts.{Adds-then, Adds-to}
use Rattle.input_faults.specs.FaultObjects.{found_members, next_number}
use Rattle.input_faults.proofs.objects.add_numbered.Goals as goal

pub returns : goal.returns
returns g c =
    Adds-to (Adds-then c.add_number.ensures c.in_ok-add_found.ensures)
    (ap (λ text. next_number c.args.name.now c.args.at.now.field ++ found_members text) c.as_slice.ensures)
