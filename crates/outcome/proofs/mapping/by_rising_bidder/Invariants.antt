use Rattle.std.proofs.Common.{◌≡◌}
use Rattle.std.specs.List.{range_with_len}
use Rattle.outcome.specs.inside.Winning.{by_bidder}
use Rattle.outcome.proofs.mapping.by_rising_bidder.Given as goal

-- the choices of the bidders so far
abbrev pub invariant-loop-k : goal.invariant-loop-k
invariant-loop-k l = l.list.items ≡ by_bidder (range_with_len 1 l.k) l.choices
