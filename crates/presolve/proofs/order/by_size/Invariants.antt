use Rattle.std.proofs.Common.{◌≡◌, ◌≤◌, length, take, map}
use Rattle.std.specs.Prelude.{vec_len, vec_capacity}
use Rattle.presolve.specs.declared.order.SizedBid.{SizedBid}
use Rattle.presolve.proofs.order.by_size.Given as goal

abbrev pub invariant-loop-bid : goal.invariant-loop-bid
invariant-loop-bid l = record {
  own : l.numbers.items ≡ map (λ (s : SizedBid). s.number) (take l.bid-index l.bid-items);
  filled : vec_len l.numbers ≡ l.bid-index;
  room : length l.bid-items ≤ vec_capacity l.numbers;
}
