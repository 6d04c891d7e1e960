use Rattle.std.proofs.Common.{◌≡◌, ◌+◌, ◌≤◌, length}
use Rattle.std.specs.Prelude.{All}
use Rattle.auction_terms.specs.Lines.{lines_of}
use Rattle.auction_terms.specs.declared.limits.TheConstants.{MOST_PARTS}
use Rattle.auction_input.specs.PriceTexts.{IsWithinAmounts, parsed_lines, parsed_price_text, common_parts, price_in_fields}
use Rattle.auction_input.proofs.price_reading.read_prices.Given as goal

-- what the lines give is what those so far give, and then the others
abbrev pub invariant-loop-line : goal.invariant-loop-line
invariant-loop-line l = record {
  so_far : parsed_price_text l.fn.known l.fn.text ≡ parsed_lines (price_in_fields l.fn.known) l.given.prices.items (l.place + 1) l.lines;
  within : l.place + length l.lines ≤ length (lines_of l.fn.text);
  parts : l.given.parts ≡ common_parts l.given.prices.items;
  some : 1 ≤ l.given.parts;
  few : l.given.parts ≤ MOST_PARTS;
  each_within : All IsWithinAmounts l.given.prices.items;
}

abbrev pub decreases-loop-line : goal.decreases-loop-line
decreases-loop-line l = length l.lines
