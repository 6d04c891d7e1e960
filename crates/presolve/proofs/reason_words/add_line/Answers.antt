use Rattle.std.proofs.Common.{rules}
use Rattle.byte_sinks.proofs.AddingFacts.{Adds-then, Adds-to}
use Rattle.presolve.proofs.reason_words.add_line.Goals as goal

pub returns : goal.returns
returns g c = Adds-then (Adds-to c.add_pieces.ensures (search rules)) (Adds-then c.add_reason.ensures c.add.ensures)
