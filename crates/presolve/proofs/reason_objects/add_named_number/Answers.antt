use Rattle.byte_sinks.proofs.AddingFacts.{Adds-then}
use Rattle.presolve.proofs.reason_objects.add_named_number.Goals as goal

pub returns : goal.returns
returns g c = Adds-then c.add_text_member.ensures c.add_number_member.ensures
