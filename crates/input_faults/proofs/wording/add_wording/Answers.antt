use Rattle.byte_sinks.proofs.AddingFacts.{Adds-then}
use Rattle.input_faults.proofs.wording.add_wording.Goals as goal

pub returns-in-NamedAt : goal.returns-in-NamedAt
returns-in-NamedAt g c = rw c.in-NamedAt.is (Adds-then c.add_code-in-NamedAt.ensures c.add_number.ensures)

pub returns-in-NamedWith : goal.returns-in-NamedWith
returns-in-NamedWith g c =
    rw c.in-NamedWith.is (Adds-then (Adds-then c.add_code-in-NamedWith.ensures c.add_number-in-NamedWith.ensures) c.add_number-in-NamedWith-2.ensures)
