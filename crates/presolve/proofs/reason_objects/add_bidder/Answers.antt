use Rattle.std.proofs.Common.{ap}
use Rattle.std.specs.Prelude.{codes}
use Rattle.byte_sinks.proofs.AddingFacts.{Adds-to}
use Rattle.byte_sinks.specs.Json.{text_member}
use Rattle.presolve.proofs.reason_objects.add_bidder.Goals as goal

pub returns : goal.returns
returns g c = Adds-to c.add_text_member.ensures (ap (text_member (codes "{") (codes "bidder")) c.bidder_name.ensures)
