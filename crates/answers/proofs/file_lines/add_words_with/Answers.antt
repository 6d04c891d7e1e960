use Rattle.std.proofs.Common.{refl}
use Rattle.byte_sinks.proofs.AddingFacts.{Adds-then, Adds-to}
use Rattle.answers.proofs.FileLineFacts.{words-alone}
use Rattle.answers.proofs.file_lines.add_words_with.Goals as goal

pub returns-in-ReadAlready : goal.returns-in-ReadAlready
returns-in-ReadAlready g c = Adds-to (Adds-then c.add_words.ensures c.add_file_name.ensures) (rw c.in-ReadAlready.is refl)

pub returns-in_default : goal.returns-in_default
returns-in_default g c = Adds-to (Adds-then c.add_words.ensures c.add.ensures) (words-alone c.args.fault c.args.other.now c.in_default.not-ReadAlready)
