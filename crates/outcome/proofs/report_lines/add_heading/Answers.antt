use Rattle.std.proofs.Common.{◌∷◌, ◌++◌, [], rules}
use Rattle.std.specs.Prelude.{codes, decimal}
use Rattle.byte_sinks.proofs.AddingFacts.{Adds-then, Adds-to}
use Rattle.outcome.proofs.report_lines.add_heading.Goals as goal

pub returns : goal.returns
returns g c =
    Adds-then {xs = codes "group " ++ (decimal c.args.k ++ 32 ∷ [])} (Adds-to c.add_pieces.ensures (search rules)) c.add_names_line.ensures
