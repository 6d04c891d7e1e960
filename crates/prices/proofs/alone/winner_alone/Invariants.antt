use Rattle.std.proofs.Common.{◌≡◌, drop}
use Rattle.prices.specs.Alone.{without_alone}
use Rattle.prices.proofs.alone.winner_alone.Given as goal

-- the groups from here on decide
abbrev pub invariant-loop-place : goal.invariant-loop-place
invariant-loop-place l = without_alone (drop l.place l.listed.groups.now) (drop l.place l.listed.won.now) l.choice.bidder
    ≡ without_alone l.listed.groups.now l.listed.won.now l.choice.bidder
