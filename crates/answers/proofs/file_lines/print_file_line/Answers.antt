use Rattle.std.proofs.Common.{refl, rules}
use Rattle.byte_sinks.proofs.AddingFacts.{Adds-then}
use Rattle.answers.proofs.LineFacts.{puts}
use Rattle.answers.proofs.file_lines.print_file_line.Goals as goal

pub returns : goal.returns
returns g c =
    puts _ _ c.flush.result c.new-writer.ensures (Adds-then c.add.ensures (Adds-then c.add_file.ensures c.add-2.ensures))
    c.flush.ensures.adds c.flush.ensures.ok c.flush.ensures.err (search rules) refl
