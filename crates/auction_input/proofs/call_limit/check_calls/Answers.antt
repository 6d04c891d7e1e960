use Rattle.std.proofs.Common.{◌≡◌, ◌<◌, ◌+◌, ◌++◌, ◌∷◌, ◌∙◌, [], ap, arith, length, subst, sym, take}
use Rattle.std.proofs.lemmas.List.{length-take-le, take_more}
use Rattle.auction_input.specs.CallLimit.{CountsCalls}
use Rattle.auction_input.proofs.call_limit.check_calls.Goals as goal
use Rattle.bid_forms.specs.Offers.{Offers}

pub loop-place-preserved : goal.loop-place-preserved
loop-place-preserved c =
    let forms = c.args.forms.now in
    let place = c.loop-place.place in
    let form = c.index-forms-place.result in
    let within : place < length forms = c.loop-place-test.true in
    let number : place ≡ length (take place forms) = sym (length-take-le place forms (omega arith)) in
    let taken : take (place + 1) forms ≡ take place forms ++ form ∷ [] =
    take_more forms place form within ∙ ap (λ (x : Offers). take place forms ++ x ∷ []) (sym c.index-forms-place.is) in
    subst (CountsCalls _) (sym taken) (c.count.ensures (take place forms) c.loop-place.invariant (ap (λ n. n + 1) number))
