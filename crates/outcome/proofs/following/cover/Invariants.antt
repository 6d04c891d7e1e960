use Rattle.std.proofs.Common.{◌≡◌}
use Rattle.auction_terms.specs.Terms.{lots_in}
use Rattle.outcome.specs.Following.{cover, covers}
use Rattle.outcome.proofs.NumberFacts.{first_from}
use Rattle.outcome.proofs.following.cover.Given as goal

-- none of the bids so far
abbrev pub invariant-loop-place : goal.invariant-loop-place
invariant-loop-place l = cover (lots_in l.book.rules) l.bids l.x ≡ first_from (covers (lots_in l.book.rules) l.bids l.x) l.bids l.place
