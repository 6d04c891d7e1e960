use Rattle.std.proofs.Common.{refl}
use Rattle.byte_sinks.proofs.AddingFacts.{Adds-then, Adds-to}
use Rattle.input_faults.proofs.placed.add_words_at.Goals as goal

pub returns-in-Some : goal.returns-in-Some
returns-in-Some g c =
    Adds-to (Adds-then c.add_file_name.ensures (Adds-then c.add.ensures c.add_words.ensures))
    (rw (c.in-Some.is, c.file_name.ensures, c.message_as.ensures) refl)

pub returns-in-None : goal.returns-in-None
returns-in-None g c = Adds-to c.add_words-in-None.ensures (rw (c.in-None.is, c.message.ensures) refl)
