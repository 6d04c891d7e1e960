use Rattle.std.proofs.Common.{◌≡◌}
use Rattle.auction_input.specs.PriceTexts.{prices_in_parts}
use Rattle.auction_input.proofs.price_reading.prices_in_parts.Given as goal

-- the prices so far
abbrev pub invariant-loop-place : goal.invariant-loop-place
invariant-loop-place l = l.prices.items ≡ prices_in_parts l.parts l.given l.place
