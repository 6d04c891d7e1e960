use Rattle.std.proofs.Common.{◌≡◌, ◌≤◌, length, take}
use Rattle.std.specs.Prelude.{vec_capacity, vec_len}
use Rattle.auction_input.specs.inside.Auctions.{bidders_of}
use Rattle.auction_input.proofs.auction.bidders_of.Given as goal

-- those of the forms so far
abbrev pub invariant-loop-form : goal.invariant-loop-form
invariant-loop-form l = record {
  own : l.bidders.items ≡ bidders_of (take l.form-index l.forms);
  filled : vec_len l.bidders ≡ l.form-index;
  room : length l.forms ≤ vec_capacity l.bidders;
}
