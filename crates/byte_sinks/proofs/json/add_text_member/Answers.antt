use Rattle.byte_sinks.proofs.AddingFacts.{Adds-then}
use Rattle.byte_sinks.proofs.json.add_text_member.Goals as goal

pub returns : goal.returns
returns g c = Adds-then c.add_member_name.ensures (Adds-then c.add.ensures (Adds-then c.add_json_text.ensures c.add-2.ensures))
