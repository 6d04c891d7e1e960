use Rattle.std.proofs.Common.{rules}
use Rattle.byte_sinks.proofs.AddingFacts.{Adds-to}
use Rattle.presolve.proofs.reason_words.add_over_cap.Goals as goal

pub returns : goal.returns
returns g c = Adds-to c.add_pieces.ensures (search rules)
