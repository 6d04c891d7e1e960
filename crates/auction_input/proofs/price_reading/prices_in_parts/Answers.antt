use Rattle.std.proofs.Common.{◌+◌, ◌++◌, ◌∷◌, ◌∙◌, [], ℕ, List, ap₂, arith, sym}
use Rattle.std.specs.Option.{option_map_or}
use Rattle.std.proofs.lemmas.List.FromFn.{map-range_with_len_more}
use Rattle.auction_terms.specs.Fractions.{in_parts}
use Rattle.auction_input.specs.PriceTexts.{price_given}
use Rattle.auction_input.proofs.price_reading.prices_in_parts.Goals as goal

pub loop-place-preserved : goal.loop-place-preserved
loop-place-preserved c =
    let place = c.loop-place.place in
    let more = map-range_with_len_more (λ (b : ℕ). option_map_or (λ g. in_parts c.args.parts g.price) (price_given c.args.given.now b) 0)
    1 place (place + 1) (omega arith) in
    c.in_ok-push.ensures.items ∙ ap₂ (λ (xs : List ℕ) (n : ℕ). xs ++ n ∷ []) c.loop-place.invariant c.price_in_parts.ensures ∙ sym more
