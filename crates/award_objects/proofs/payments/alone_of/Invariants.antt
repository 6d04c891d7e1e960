use Rattle.std.proofs.Common.{◌≡◌, drop}
use Rattle.prices.specs.Alone.{without_alone}
use Rattle.award_objects.proofs.payments.alone_of.Given as goal

-- the groups from here on decide
abbrev pub invariant-loop-place : goal.invariant-loop-place
invariant-loop-place l = without_alone (drop l.place l.outcome.groups.now) (drop l.place l.outcome.won.now) l.choice.bidder
    ≡ without_alone l.outcome.groups.now l.outcome.won.now l.choice.bidder
