use Rattle.std.proofs.Common.{◌≡◌, ◌≤◌, ◌*◌, ◌^◌, take}
use Rattle.outcome.specs.Pricing.{paid, price_in}
use Rattle.outcome.proofs.pricing.paid.Given as goal

-- the sum so far
abbrev pub invariant-loop-choice : goal.invariant-loop-choice
invariant-loop-choice l = record {
  sum_is : l.sum ≡ paid (price_in l.prices) (take l.choice-index l.choices);
  small : l.sum ≤ l.choice-index * 2 ^ 64;
}
