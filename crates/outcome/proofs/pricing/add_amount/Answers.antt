use Rattle.std.proofs.Common.{◌∷◌, [], append_assoc, sym}
use Rattle.std.specs.Prelude.{decimal}
use Rattle.byte_sinks.proofs.AddingFacts.{Adds-then, Adds-to}
use Rattle.outcome.specs.Pricing.{exact_text}
use Rattle.outcome.proofs.pricing.add_amount.Goals as goal

pub returns : goal.returns
returns g c = Adds-to (Adds-then c.add_whole.ensures (Adds-then c.add_exact.ensures c.add.ensures))
    (sym (append_assoc (decimal c.args.pounds) (exact_text c.args.parts c.args.pounds c.args.exact) (10 ∷ [])))
