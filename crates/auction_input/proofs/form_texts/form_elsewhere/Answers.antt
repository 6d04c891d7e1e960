use Rattle.std.proofs.Common.{◌≡◌, ◌<◌, ◌+◌, ◌++◌, ◌∷◌, ◌∙◌, [], ap, ap₂, arith, length, slice_index_or, subst, sym, take}
use Rattle.std.proofs.lemmas.List.{length-take-le, take_more}
use Rattle.std.specs.List.{zip}
use Rattle.auction_input.proofs.FormTextFacts.{length-zip, zip-more}
use Rattle.auction_input.specs.FormTexts.{KnowsTexts}
use Rattle.bid_forms.specs.Offers.{Offers}
use Rattle.auction_input.proofs.form_texts.form_elsewhere.Goals as goal

pub loop-place-init : goal.loop-place-init
loop-place-init c = c.new-known.ensures c.args.rules.now

pub loop-place-preserved : goal.loop-place-preserved
loop-place-preserved c =
    let forms = c.args.forms.now in
    let numbers = c.args.numbers.now in
    let place = c.loop-place.place in
    let form = c.index-forms-place.result in
    let number = slice_index_or numbers place 0 in
    let as_many = c.requires in
    let within : place < length forms = c.loop-place-test.true in
    let taken : take (place + 1) forms ≡ take place forms ++ form ∷ [] =
    take_more forms place form within ∙ ap (λ (x : Offers). take place forms ++ x ∷ []) (sym c.index-forms-place.is) in
    let texts : take (place + 1) numbers ≡ take place numbers ++ number ∷ [] = take_more numbers place 0 (omega arith) in
    let front_forms = length-take-le place forms (omega arith) in
    let front_texts = length-take-le place numbers (omega arith) in
    let same : length (take place numbers) ≡ length (take place forms) = front_texts ∙ sym front_forms in
    let pairs = length-zip (take place forms) (take place numbers) same in
    let all : zip (take (place + 1) forms) (take (place + 1) numbers) ≡ zip (take place forms) (take place numbers) ++ (form, number) ∷ [] =
    ap₂ (λ xs ys. zip xs ys) taken texts ∙ zip-more (take place forms) (take place numbers) form number same in
    subst (KnowsTexts c.args.rules.now _) (sym all) (c.add.ensures (zip (take place forms) (take place numbers)) c.loop-place.invariant (omega arith))
