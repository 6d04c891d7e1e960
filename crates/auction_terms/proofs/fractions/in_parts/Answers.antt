use Rattle.std.proofs.Common.{arith}
use Rattle.auction_terms.proofs.FractionFacts.{parts-most}
use Rattle.auction_terms.specs.declared.limits.TheConstants.{GREATEST_AMOUNT}
use Rattle.auction_terms.proofs.fractions.in_parts.Goals as goal

pub returns-clause-small : goal.returns-clause-small
returns-clause-small c =
    let most = parts-most c.args.price.numerator c.args.price.denominator c.args.parts GREATEST_AMOUNT c.requires.some c.requires.most in
    grind (arith, most, c.requires.few, c.from.ensures, c.from-2.ensures, c.from-3.ensures)
