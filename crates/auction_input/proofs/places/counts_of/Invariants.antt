use Rattle.std.proofs.Common.{◌≡◌, map, take}
use Rattle.auction_input.specs.Places.{count_in}
use Rattle.auction_input.proofs.places.counts_of.Given as goal

abbrev pub invariant-loop-given : goal.invariant-loop-given
invariant-loop-given l = l.counts.items ≡ map (count_in l.fn.what) (take l.given-index l.fn.texts)
