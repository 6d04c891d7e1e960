use Rattle.std.proofs.Common.{◌≡◌, ◌+◌, ◌≤◌, length}
use Rattle.auction_terms.specs.Lines.{lines_of}
use Rattle.auction_input.specs.PriceTexts.{parsed_lines, parsed_rule_lines, rule_in_fields}
use Rattle.auction_input.proofs.rule_reading.read_rule_lines.Given as goal

-- what the lines give is what those so far give, and then the others
abbrev pub invariant-loop-line : goal.invariant-loop-line
invariant-loop-line l = (parsed_rule_lines l.fn.known l.fn.text ≡ parsed_lines (rule_in_fields l.fn.known) l.given.items (l.place + 1) l.lines)
    × (l.place + length l.lines ≤ length (lines_of l.fn.text))

abbrev pub decreases-loop-line : goal.decreases-loop-line
decreases-loop-line l = length l.lines
