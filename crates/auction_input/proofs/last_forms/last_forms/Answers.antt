use Rattle.std.proofs.Common.{◌≡◌, ◌<◌, ◌+◌, ◌++◌, ◌∷◌, ◌∙◌, [], Bor, List, ℕ, ap, ap₂, arith, length, slice_index_or, subst, sym, take}
use Rattle.std.proofs.lemmas.List.{get_or-map, length-map, length-take-le, take_more}
use Rattle.std.specs.List.{zip}
use Rattle.auction_input.proofs.FormTextFacts.{zip-more}
use Rattle.auction_input.specs.LastForms.{HoldsLast}
use Rattle.auction_terms.specs.Lines.{bytes_of}
use Rattle.bid_forms.specs.Offers.{Offers}
use Rattle.auction_input.proofs.last_forms.last_forms.Goals as goal

pub loop-place-preserved : goal.loop-place-preserved
loop-place-preserved c =
    let forms = c.args.forms.now in
    let texts = c.args.texts.now in
    let place = c.loop-place.place in
    let form = c.index-forms-place.result in
    let as_many = c.requires in
    let count : length (bytes_of texts) ≡ length texts = length-map texts (λ text. text.now) in
    let within : place < length forms = c.loop-place-test.true in
    let bytes : List ℕ = slice_index_or (bytes_of texts) place [] in
    let taken : take (place + 1) forms ≡ take place forms ++ form ∷ [] =
    take_more forms place form within ∙ ap (λ (x : Offers). take place forms ++ x ∷ []) (sym c.index-forms-place.is) in
    let read : take (place + 1) (bytes_of texts) ≡ take place (bytes_of texts) ++ bytes ∷ [] = take_more (bytes_of texts) place [] (omega arith) in
    let front_forms = length-take-le place forms (omega arith) in
    let front_texts = length-take-le place (bytes_of texts) (omega arith) in
    let same : length (take place (bytes_of texts)) ≡ length (take place forms) = front_texts ∙ sym front_forms in
    let all : zip (take (place + 1) forms) (take (place + 1) (bytes_of texts)) ≡ zip (take place forms) (take place (bytes_of texts)) ++ (form, bytes) ∷ [] =
    ap₂ (λ xs ys. zip xs ys) taken read ∙ zip-more (take place forms) (take place (bytes_of texts)) form bytes same in
    let own = get_or-map (λ (text : Bor (List ℕ)). text.now) texts place (record { ref_ptr = (0, 0); now = [] }) [] (omega arith) in
    subst (HoldsLast c.add.new.self) (sym all)
    (rw own (c.add.ensures (zip (take place forms) (take place (bytes_of texts))) c.loop-place.invariant))
