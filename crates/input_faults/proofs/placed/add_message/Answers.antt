use Rattle.byte_sinks.proofs.AddingFacts.{Adds-then, Adds-to}
use Rattle.input_faults.proofs.PlaceFacts.{other-after}
use Rattle.input_faults.proofs.placed.add_message.Goals as goal

pub returns : goal.returns
returns g c = Adds-to (Adds-then c.add_words_at.ensures c.add_other.ensures) (other-after c.args.texts.now c.args.refusal.now _)
