use Rattle.std.proofs.Common.{◌≡◌, ◌*◌, false, refl, sym, ◌∙◌}
use Rattle.std.specs.Prelude.{◌==◌}
use Rattle.byte_sinks.proofs.AddingFacts.{Adds-then, Adds-to}
use Rattle.outcome.proofs.pricing.add_exact.Goals as goal

pub returns-else-is_exact : goal.returns-else-is_exact
returns-else-is_exact g c =
    let other : (c.args.parts * c.args.pounds == c.args.exact) ≡ false = sym c.is_exact.ensures ∙ c.if-is_exact.false in
    Adds-to (Adds-then c.add-else-is_exact.ensures c.add_fraction.ensures) (rw other refl)
