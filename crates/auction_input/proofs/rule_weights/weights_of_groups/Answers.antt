use Rattle.std.proofs.Common.{◌+◌, ◌++◌, ◌∷◌, ◌∙◌, [], ℕ, List, ap₂, arith, sym}
use Rattle.std.proofs.lemmas.List.FromFn.{map-range_with_len_more}
use Rattle.auction_input.specs.PriceTexts.{weight_given}
use Rattle.auction_input.specs.declared.rule_weights.Subject.TheVariants as subject
use Rattle.auction_input.proofs.rule_weights.weights_of_groups.Goals as goal

pub loop-place-preserved : goal.loop-place-preserved
loop-place-preserved c =
    let place = c.loop-place.place in
    let more = map-range_with_len_more (λ (k : ℕ). weight_given c.args.aim c.args.given.now (subject.Group k)) 1 place (place + 1) (omega arith) in
    c.in_ok-push.ensures.items ∙ ap₂ (λ (xs : List ℕ) (n : ℕ). xs ++ n ∷ []) c.loop-place.invariant c.weight_given.ensures ∙ sym more
