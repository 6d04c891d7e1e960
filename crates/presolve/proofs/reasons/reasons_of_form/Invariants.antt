use Rattle.std.proofs.Common.{◌≡◌, ◌≤◌, length, map, take}
use Rattle.std.specs.Prelude.{vec_capacity, vec_len}
use Rattle.auction_terms.specs.Terms.{lots_in}
use Rattle.presolve.specs.Reasons.{why_left_out}
use Rattle.presolve.proofs.reasons.reasons_of_form.Given as goal

-- those of the bids so far
abbrev pub invariant-loop-place : goal.invariant-loop-place
invariant-loop-place l = record {
  own : l.reasons.items ≡ map (why_left_out (lots_in l.rules) l.bids) (take l.place l.bids);
  filled : vec_len l.reasons ≡ l.place;
  room : length l.bids ≤ vec_capacity l.reasons;
}
