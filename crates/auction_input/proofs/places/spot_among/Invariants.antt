use Rattle.std.proofs.Common.{◌≡◌, drop}
use Rattle.auction_input.specs.Places.{located}
use Rattle.auction_input.proofs.PlaceFacts.{shifted}
use Rattle.auction_input.proofs.places.spot_among.Given as goal

abbrev pub invariant-loop-place : goal.invariant-loop-place
invariant-loop-place l = located l.fn.counts l.fn.number ≡ shifted l.place (located (drop l.place l.fn.counts) l.left)
