use Rattle.std.proofs.Common.{◌≡◌, map}
use Rattle.std.specs.Prelude.{sum_by}
use Rattle.std.specs.List.{range_with_len}
use Rattle.auction_terms.specs.Allocations.{quantity_of}
use Rattle.bid_desk.specs.Closing.{book_of}
use Rattle.outcome.proofs.following.taken.Given as goal

-- the lots of the categories so far
abbrev pub invariant-loop-category : goal.invariant-loop-category
invariant-loop-category l = l.lots.items ≡ map (λ category. sum_by (quantity_of (book_of l.book) category) l.choices) (range_with_len 0 l.category)
