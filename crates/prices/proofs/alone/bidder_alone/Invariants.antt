use Rattle.std.proofs.Common.{◌≡◌, drop}
use Rattle.prices.specs.Alone.{choice_won}
use Rattle.prices.proofs.alone.bidder_alone.Given as goal

-- the winners from here on decide
abbrev pub invariant-loop-choice : goal.invariant-loop-choice
invariant-loop-choice l = choice_won (drop l.choice-index l.first) l.bidder ≡ choice_won l.first l.bidder
