use Rattle.std.proofs.Common.{◌∙◌, ◌+◌, ap, arith, drop, drop_of_length-le, sym}
use Rattle.std.proofs.lemmas.List.{drop_more}
use Rattle.auction_input.specs.Places.{located}
use Rattle.auction_input.proofs.PlaceFacts.{located-after, located-here, shifted, shifted-none}
use Rattle.auction_input.proofs.places.spot_among.Goals as goal

pub loop-place-init : goal.loop-place-init
loop-place-init c = shifted-none (located c.args.counts.now c.args.number)

pub loop-place-preserved : goal.loop-place-preserved
loop-place-preserved c =
    let counts = c.args.counts.now in
    let place = c.loop-place.place in
    let left = c.loop-place.left in
    c.loop-place.invariant ∙ ap (λ ns. shifted place (located ns left)) (drop_more counts place 0 c.loop-place-test.true)
    ∙ located-after place left _ (drop (place + 1) counts) (omega arith)

pub returns-then-left-count : goal.returns-then-left-count
returns-then-left-count c =
    let counts = c.args.counts.now in
    let place = c.loop-place.place in
    let left = c.loop-place.left in
    sym (c.loop-place.invariant ∙ ap (λ ns. shifted place (located ns left)) (drop_more counts place 0 c.loop-place-test.true)
    ∙ located-here place left _ (drop (place + 1) counts) (omega arith))

pub returns : goal.returns
returns c =
    let counts = c.args.counts.now in
    sym (c.loop-place.invariant ∙ ap (λ ns. shifted c.loop-place.place (located ns c.loop-place.left)) (drop_of_length-le counts (omega arith)))
