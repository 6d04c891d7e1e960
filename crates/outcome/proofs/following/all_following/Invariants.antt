use Rattle.std.proofs.Common.{◌≡◌, take}
use Rattle.std.specs.Prelude.{flat_map}
use Rattle.auction_terms.specs.Terms.{lots_in}
use Rattle.bid_desk.specs.Closing.{book_of}
use Rattle.outcome.specs.Following.{following}
use Rattle.outcome.proofs.following.all_following.Given as goal

-- what follows from the awards so far
abbrev pub invariant-loop-award : goal.invariant-loop-award
invariant-loop-award l = l.found.items ≡ take l.most (flat_map (following (lots_in l.book.rules) (book_of l.book)) (take l.award-index l.listed))
