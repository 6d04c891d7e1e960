use Rattle.std.proofs.Common.{◌≡◌, ◌≤◌, ◌++◌, length, take}
use Rattle.auction_terms.specs.Domination.{net}
use Rattle.auction_terms.specs.Terms.{lots_in}
use Rattle.outcome.specs.inside.Following.{each_put, replaces}
use Rattle.outcome.proofs.NumberFacts.{numbers_from}
use Rattle.outcome.proofs.following.add_replaced.Given as goal

-- what is found so far, with what is to come
abbrev pub invariant-loop-at : goal.invariant-loop-at
invariant-loop-at l =
    let lots = lots_in l.book.rules in
    let w = l.seat.winner in
    let passes = replaces lots w.bids.now w.choice.bid (net lots w.won.now) l.seat.others in record {
      found_are : take l.most (l.found.items ++ each_put l.seat.award.now l.seat.place w.choice.bidder (numbers_from passes w.bids.now l.at))
          ≡ take l.most (l.initial.found.items ++ each_put l.seat.award.now l.seat.place w.choice.bidder (numbers_from passes w.bids.now 0));
      room : length l.found.items ≤ l.most;
    }
