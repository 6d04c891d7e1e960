use Rattle.std.proofs.Common.{ap, arith, length}
use Rattle.auction_terms.proofs.LineCountFacts.{lines-within}
use Rattle.auction_input.proofs.rule_reading.read_rule_lines.Goals as goal

pub overflow_add-place : goal.overflow_add-place
overflow_add-place c = omega (arith, c.loop-line.invariant.1, lines-within c.args.text.now, ap length c.in-Some.ensures)
