use Rattle.std.proofs.Common.{◌≡◌, ◌<◌, ◌+◌, ◌∷◌, ◌∙◌, ℕ, List, false, ap, arith, drop, drop_of_length-le, length, slice_index_or, subst, sym}
use Rattle.std.proofs.lemmas.List.{drop_more}
use Rattle.auction_terms.proofs.FirstFaultFacts.{CheckedSoFar, checked-all}
use Rattle.auction_input.specs.Input.{NamedText}
use Rattle.std.specs.List.{list_any}
use Rattle.auction_input.specs.Parts.{cut_lines, has_bytes_before, part_fault, parts_from, parts_held, parts_in, input_parts}
use Rattle.auction_input.proofs.PartFacts.{fault-of-parts, text-more, text-refused}
use Rattle.auction_input.proofs.parts.split_parts.Goals as goal

-- the text at a place, and those after it
ahead : (texts seen : List NamedText) (place : ℕ) (x : NamedText) → seen ≡ texts → place < length seen → x ≡ slice_index_or seen place x
    → drop place texts ≡ x ∷ drop (place + 1) texts
ahead texts seen place x same within is = rw (← same) (drop_more seen place x within ∙ ap (λ (y : NamedText). y ∷ drop (place + 1) seen) (sym is))

pub loop-place-preserved : goal.loop-place-preserved
loop-place-preserved c =
    let asked = c.args.request.now in
    let input = c.args.input.now in
    let place = c.loop-place.place in
    let x = c.index-texts-place.result in
    let old = parts_held c.loop-place.parts.items in
    let next = ahead input.texts c.texts-texts.result.now place x c.texts-texts.ensures c.loop-place-test.true c.index-texts-place.is in
    let here = subst (λ rest. CheckedSoFar (part_fault asked) (input_parts input) old rest) (ap (parts_from place) next) c.loop-place.invariant in
    let added = rw c.bytes.ensures at c.in-Ok.ensures.added in
    text-more asked (input_parts input) old (parts_in place (cut_lines x.bytes)) (parts_from (place + 1) (drop (place + 1) input.texts))
    (parts_held c.add_parts.new.parts.items) here added

pub returns-in-Err : goal.returns-in-Err
returns-in-Err c =
    let asked = c.args.request.now in
    let input = c.args.input.now in
    let place = c.loop-place.place in
    let x = c.index-texts-place.result in
    let old = parts_held c.loop-place.parts.items in
    let next = ahead input.texts c.texts-texts.result.now place x c.texts-texts.ensures c.loop-place-test.true c.index-texts-place.is in
    let here = subst (λ rest. CheckedSoFar (part_fault asked) (input_parts input) old rest) (ap (parts_from place) next) c.loop-place.invariant in
    let none : list_any has_bytes_before input.texts ≡ false = rw c.texts-texts.ensures at (sym c.have_bytes_before.ensures ∙ c.if-have_bytes_before.false) in
    text-refused asked input old (parts_in place (cut_lines x.bytes)) (parts_from (place + 1) (drop (place + 1) input.texts)) c.in-Err.fault
    none here (rw c.bytes.ensures at c.in-Err.ensures.fault)

pub returns : goal.returns
returns c =
    let asked = c.args.request.now in
    let input = c.args.input.now in
    let none : list_any has_bytes_before input.texts ≡ false = rw c.texts-texts.ensures at (sym c.have_bytes_before.ensures ∙ c.if-have_bytes_before.false) in
    let many = ap length c.texts-texts.ensures in
    let all = drop_of_length-le input.texts (omega arith) in
    let end = checked-all (part_fault asked) (input_parts input) (parts_held c.loop-place.parts.items)
    (subst (λ texts. CheckedSoFar (part_fault asked) (input_parts input) (parts_held c.loop-place.parts.items)
    (parts_from c.loop-place.place texts)) all c.loop-place.invariant) in
    (fault-of-parts asked input none ∙ end.0, sym end.1)
