use Rattle.std.proofs.Common.{◌≡◌, ◌≤◌, ◌*◌, ◌^◌, take}
use Rattle.outcome.specs.Pricing.{in_pounds, paid, price_in}
use Rattle.outcome.proofs.pricing.paid_in_pounds.Given as goal

-- the sum so far
abbrev pub invariant-loop-choice : goal.invariant-loop-choice
invariant-loop-choice l = record {
  sum_is : l.sum ≡ paid (in_pounds l.pricing.parts (price_in l.pricing.prices)) (take l.choice-index l.choices);
  small : l.sum ≤ l.choice-index * 2 ^ 64;
}
