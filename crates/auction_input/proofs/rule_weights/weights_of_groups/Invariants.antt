use Rattle.std.proofs.Common.{◌≡◌}
use Rattle.auction_input.specs.PriceTexts.{weights_of_groups}
use Rattle.auction_input.proofs.rule_weights.weights_of_groups.Given as goal

-- the weights so far
abbrev pub invariant-loop-place : goal.invariant-loop-place
invariant-loop-place l = l.weights.items ≡ weights_of_groups l.aim l.given l.place
