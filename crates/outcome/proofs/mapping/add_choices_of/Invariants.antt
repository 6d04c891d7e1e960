use Rattle.std.proofs.Common.{◌≡◌, ◌==◌, ◌++◌, take}
use Rattle.std.specs.Prelude.{filter}
use Rattle.outcome.proofs.mapping.add_choices_of.Given as goal

-- the bidder's choices so far are added
abbrev pub invariant-loop-choice : goal.invariant-loop-choice
invariant-loop-choice l = l.list.items ≡ l.initial.list.items ++ filter (λ c. c.bidder == l.bidder) (take l.choice-index l.choices)
