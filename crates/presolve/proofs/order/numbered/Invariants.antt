use Rattle.std.proofs.Common.{◌≡◌, All, map, take, vec_capacity, vec_len, length, ◌≤◌}
use Rattle.auction_terms.specs.Terms.{lots_in}
use Rattle.presolve.specs.declared.order.SizedBid.{SizedBid}
use Rattle.presolve.specs.inside.Sizes.{TellsItsNet, TellsItsSize}
use Rattle.presolve.proofs.order.numbered.Given as goal

-- those so far
abbrev pub invariant-loop-place : goal.invariant-loop-place
invariant-loop-place l = record {
  count : vec_len l.numbered ≡ l.place;
  room : length l.bids ≤ vec_capacity l.numbered;
  same : map (λ (s : SizedBid). s.bid.now) l.numbered.items ≡ take l.place l.bids;
  reported : All TellsItsSize l.numbered.items;
  nets : All (TellsItsNet (lots_in l.rules)) l.numbered.items;
}
