use Rattle.std.proofs.Common.{rules}
use Rattle.byte_sinks.proofs.AddingFacts.{Adds-then, Adds-to}
use Rattle.outcome.proofs.pricing.add_fraction.Goals as goal

pub returns : goal.returns
returns g c = Adds-to (Adds-then c.add_whole.ensures c.add_denominator.ensures) (rw (c.gcd-divisor.ensures.divisor, c.from.ensures) (search rules))
