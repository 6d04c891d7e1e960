use Rattle.std.proofs.Common.{◌≡◌, drop}
use Rattle.bid_desk.specs.Sale.{sale_of}
use Rattle.answers.specs.Pricing.{winners_fault}
use Rattle.answers.proofs.pricing.check_winners.Given as goal

-- the fault of all is that of those ahead
abbrev pub invariant-loop-choice : goal.invariant-loop-choice
invariant-loop-choice l = winners_fault l.book.rules (sale_of l.book) l.given.prices.items l.choices
    ≡ winners_fault l.book.rules (sale_of l.book) l.given.prices.items (drop l.choice-index l.choices)
