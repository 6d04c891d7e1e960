use Rattle.std.proofs.Common.{arith}
use Rattle.outcome.proofs.NearFacts.{pow_above, zero_near}
use Rattle.outcome.proofs.solution_values.near_part.Goals as goal

pub returns-then-places-gt-GREATEST_POWER : goal.returns-then-places-gt-GREATEST_POWER
returns-then-places-gt-GREATEST_POWER c =
    let p = pow_above 39 c.args.places (omega arith) in zero_near c.args.minus c.args.digits _ (omega (arith, c.requires.digits))

pub pow-unit-requires : goal.pow-unit-requires
pow-unit-requires c = omega (arith, pow_above c.args.places 38 (omega arith))
