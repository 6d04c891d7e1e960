use Rattle.std.proofs.Common.{◌≡◌, drop, map}
use Rattle.auction_input.specs.Places.{count_in, located}
use Rattle.auction_input.proofs.PlaceFacts.{shifted}
use Rattle.auction_input.proofs.places.find_spot.Given as goal

abbrev pub invariant-loop-place : goal.invariant-loop-place
invariant-loop-place l = located (map (count_in l.fn.what) l.fn.texts) l.fn.number
    ≡ shifted l.place (located (map (count_in l.fn.what) (drop l.place l.fn.texts)) l.left)
