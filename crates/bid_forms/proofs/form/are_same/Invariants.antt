use Rattle.std.specs.Prelude.{◌≡◌, length, take}
use Rattle.bid_forms.proofs.form.are_same.Given as goal

abbrev pub invariant-loop-place : goal.invariant-loop-place
invariant-loop-place l = record {
  same : take l.place l.bids ≡ take l.place l.others;
  lengths : length l.bids ≡ length l.others;
}
