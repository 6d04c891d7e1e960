use Rattle.std.proofs.Common.{◌≡◌, take}
use Rattle.std.specs.Prelude.{flat_map}
use Rattle.auction_terms.specs.Terms.{lots_in}
use Rattle.bid_desk.specs.Closing.{book_of}
use Rattle.outcome.specs.inside.Following.{options}
use Rattle.outcome.proofs.following.with_one_more.Given as goal

-- those of the awards so far
abbrev pub invariant-loop-award : goal.invariant-loop-award
invariant-loop-award l = l.found.items ≡ take l.most (flat_map (options (lots_in l.book.rules) (book_of l.book) l.place l.choice) (take l.award-index l.awards))
