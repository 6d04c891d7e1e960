use Rattle.std.proofs.Common.{◌++◌, ap}
use Rattle.std.specs.Prelude.{codes}
use Rattle.byte_sinks.proofs.AddingFacts.{Adds-then, Adds-to}
use Rattle.input_faults.specs.FaultObjects.{next_number, next_text}
use Rattle.input_faults.proofs.objects.add_code.Goals as goal

pub returns-in-Some : goal.returns-in-Some
returns-in-Some g c =
    let code = c.in-Some.code in
    rw c.in-Some.is (Adds-to (Adds-then c.add_text.ensures c.add_number.ensures)
    (ap (λ name. next_text (codes "fault") name ++ next_number (codes "code") code.number) c.as_bytes.ensures.value))
