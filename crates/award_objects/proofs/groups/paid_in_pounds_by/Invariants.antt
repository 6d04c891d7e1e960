use Rattle.std.proofs.Common.{◌≡◌, ◌≤◌, ◌*◌, ◌^◌, take}
use Rattle.outcome.specs.Pricing.{in_pounds, price_in}
use Rattle.prices.specs.Prices.{paid_by_group}
use Rattle.award_objects.proofs.groups.paid_in_pounds_by.Given as goal

-- the sum so far
abbrev pub invariant-loop-choice : goal.invariant-loop-choice
invariant-loop-choice l = record {
  sum_is : l.sum ≡ paid_by_group (in_pounds l.pricing.parts (price_in l.pricing.prices)) l.group (take l.choice-index l.choices);
  small : l.sum ≤ l.choice-index * 2 ^ 64;
}
