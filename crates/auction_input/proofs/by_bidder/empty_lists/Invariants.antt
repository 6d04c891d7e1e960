use Rattle.std.proofs.Common.{◌≡◌, [], vec_len}
use Rattle.auction_input.specs.inside.Submissions.{AreByBidder}
use Rattle.auction_input.proofs.by_bidder.empty_lists.Given as goal

abbrev pub invariant-loop : goal.invariant-loop
invariant-loop l = (vec_len l.lists ≡ l.counter) × AreByBidder [] l.lists.items
