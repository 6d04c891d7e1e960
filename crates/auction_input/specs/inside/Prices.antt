-- What the code knows of a price that it reads.
use Rattle.std.specs.Prelude.{◌≤◌, ℕ}
use Rattle.auction_terms.specs.Fractions.{lcm}
use Rattle.auction_terms.specs.declared.limits.TheConstants.{MOST_PARTS}
use Rattle.auction_input.specs.PriceTexts.{IsWithinAmounts}
use Rattle.auction_input.specs.declared.price_reading.GivenPrice.{GivenPrice}

-- with it, prices that are whole in these parts of a pound are whole in few parts
pub record StaysWhole (parts : ℕ) (g : GivenPrice) : Type 0 where
  pub within : IsWithinAmounts g
  pub small : g.price.denominator ≤ MOST_PARTS
  pub few : lcm parts g.price.denominator ≤ MOST_PARTS
