use Rattle.byte_sinks.proofs.AddingFacts.{Adds-then, Adds-to}
use Rattle.answers.proofs.FileLineFacts.{named-file}
use Rattle.answers.proofs.file_lines.add_file.Goals as goal

pub returns-in_default : goal.returns-in_default
returns-in_default g c =
    Adds-to (Adds-then c.add_file_name.ensures (Adds-then c.add-in_default.ensures c.add_words_with.ensures))
    (named-file c.args.name.now c.args.fault c.args.other.now c.in_default.not-OutOfMemory)
