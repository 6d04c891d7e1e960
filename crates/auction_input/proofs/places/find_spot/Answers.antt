use Rattle.std.proofs.Common.{◌∙◌, ◌+◌, ◌-◌, ◌∷◌, ap, arith, drop, drop_of_length-le, map, sym}
use Rattle.std.proofs.lemmas.List.{drop_more}
use Rattle.auction_input.specs.Places.{count_in, located}
use Rattle.auction_input.proofs.PlaceFacts.{located-after, located-here, shifted, shifted-none}
use Rattle.auction_input.proofs.places.find_spot.Goals as goal

pub loop-place-init : goal.loop-place-init
loop-place-init c = shifted-none (located (map (count_in c.args.what) c.args.texts.now) c.args.number)

pub loop-place-preserved : goal.loop-place-preserved
loop-place-preserved c =
    let texts = c.args.texts.now in
    let counts = count_in c.args.what in
    let place = c.loop-place.place in
    let left = c.loop-place.left in
    let at = c.index-texts-place.result in
    let counted = c.count_in-count.ensures in
    c.loop-place.invariant ∙ ap (λ xs. shifted place (located (map counts xs) left))
    (drop_more texts place at c.loop-place-test.true ∙ ap (λ x. x ∷ drop (place + 1) texts) (sym c.index-texts-place.is))
    ∙ located-after place left (counts at) (map counts (drop (place + 1) texts)) (omega arith)
    ∙ ap (λ n. shifted (place + 1) (located (map counts (drop (place + 1) texts)) (left - n))) (sym counted)

pub returns-then-left-count : goal.returns-then-left-count
returns-then-left-count c =
    let texts = c.args.texts.now in
    let counts = count_in c.args.what in
    let place = c.loop-place.place in
    let left = c.loop-place.left in
    let at = c.index-texts-place.result in
    let counted = c.count_in-count.ensures in
    sym (c.loop-place.invariant ∙ ap (λ xs. shifted place (located (map counts xs) left))
    (drop_more texts place at c.loop-place-test.true ∙ ap (λ x. x ∷ drop (place + 1) texts) (sym c.index-texts-place.is))
    ∙ located-here place left _ (map counts (drop (place + 1) texts)) (omega arith))

pub returns : goal.returns
returns c =
    let texts = c.args.texts.now in
    sym (c.loop-place.invariant ∙ ap (λ xs. shifted c.loop-place.place (located (map (count_in c.args.what) xs) c.loop-place.left))
    (drop_of_length-le texts (omega arith)))
