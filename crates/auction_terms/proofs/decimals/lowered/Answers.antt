use Rattle.std.proofs.Common.{arith}
use Rattle.auction_terms.proofs.PowerFacts.{pow_above, pow_some, too_low}
use Rattle.auction_terms.proofs.decimals.lowered.Goals as goal

pub returns-then-places-ge30 : goal.returns-then-places-ge30
returns-then-places-ge30 c = too_low c.args.digits c.args.places c.requires.some c.requires.digits c.if-places-ge30.true

pub pow-unit-requires : goal.pow-unit-requires
pow-unit-requires c = omega (arith, pow_above c.args.places 29 (omega arith))

pub nonzero_rem-digits : goal.nonzero_rem-digits
nonzero_rem-digits c = omega (arith, c.pow-unit.ensures, pow_some c.args.places)
