use Rattle.std.proofs.Common.{◌≡◌, ◌≤◌, ◌^◌, map}
use Rattle.std.specs.Prelude.{All, sum_by}
use Rattle.std.specs.List.{range_with_len}
use Rattle.auction_terms.specs.Allocations.{quantity_of}
use Rattle.bid_desk.specs.Closing.{book_of}
use Rattle.award_objects.proofs.lots.sold_by.Given as goal

-- the lots of the categories so far
abbrev pub invariant-loop-category : goal.invariant-loop-category
invariant-loop-category l = record {
  sold : l.sold.items ≡ map (λ category. sum_by (quantity_of (book_of l.book) category) l.choices) (range_with_len 0 l.category);
  small : All (λ lots. lots ≤ 2 ^ 80) l.sold.items;
}
