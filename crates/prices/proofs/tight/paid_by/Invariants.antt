use Rattle.std.proofs.Common.{◌≡◌, ◌≤◌, ◌*◌, ◌^◌, take}
use Rattle.outcome.specs.Pricing.{price_in}
use Rattle.prices.specs.inside.Weighing.{paid_in}
use Rattle.prices.proofs.tight.paid_by.Given as goal

-- what those so far pay
abbrev pub invariant-loop-choice : goal.invariant-loop-choice
invariant-loop-choice l = record {
  sum_is : l.sum ≡ paid_in l.group (price_in l.prices) (take l.choice-index l.choices);
  small : l.sum ≤ l.choice-index * 2 ^ 64;
}
