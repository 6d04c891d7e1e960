use Rattle.std.proofs.Common.{◌≡◌, ◌≤◌, ◌^◌, length, map, take}
use Rattle.std.specs.Prelude.{All}
use Rattle.auction_terms.specs.Allocations.{total}
use Rattle.auction_terms.specs.Terms.{lots_in}
use Rattle.bid_desk.specs.Closing.{book_of}
use Rattle.award_objects.proofs.awards.totals_of.Given as goal

-- the totals so far
abbrev pub invariant-loop-place : goal.invariant-loop-place
invariant-loop-place l = record {
  totals : l.totals.items ≡ map (total (lots_in l.outcome.book.now.rules) (book_of l.outcome.book.now)) (take l.place l.outcome.won.now);
  small : All (λ n. n ≤ 2 ^ 60) l.totals.items;
  count : length l.totals.items ≡ l.place;
}
