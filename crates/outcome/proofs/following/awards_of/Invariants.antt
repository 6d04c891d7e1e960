use Rattle.std.proofs.Common.{◌≡◌, take}
use Rattle.auction_terms.specs.Terms.{lots_in}
use Rattle.bid_desk.specs.Closing.{book_of}
use Rattle.outcome.specs.inside.Following.{partly}
use Rattle.outcome.proofs.following.awards_of.Given as goal

-- those in which only the winners so far are replaced
abbrev pub invariant-loop-place : goal.invariant-loop-place
invariant-loop-place l = l.found.items ≡ take l.most (partly (lots_in l.book.rules) (book_of l.book) l.award l.place)
