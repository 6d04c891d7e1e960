use Rattle.std.proofs.Common.{◌++◌, ◌≡◌, ◌∙◌, ◌+◌, ◌==◌, ℕ, List, [], Option, ap, arith, cond, length, rules, slice_index_or, sym}
use Rattle.std.specs.Prelude.{flat_map}
use Rattle.std.specs.Option.{option_map_or}
use Rattle.std.proofs.lemmas.List.{get_or-map, length-map}
use Rattle.std.specs.declared.vec.Vec.{Vec}
use Rattle.std.specs.Global.{Global}
use Rattle.byte_sinks.proofs.AddingFacts.{Adds-then, Adds-to}
use Rattle.byte_sinks.specs.Adds.{Adds}
use Rattle.presolve.specs.Lines.{form_lines, forms_by, replaced, replaced_lines}
use Rattle.presolve.specs.declared.reason.Reason.{Reason}
use Rattle.presolve.proofs.LineFacts.{numbered-all, numbered-next}
use Rattle.presolve.proofs.writing.add_bidders.Goals as goal
use Rattle.presolve.proofs.writing.add_bidders.Goals.{in-Some, in_default}

abbrev items : Vec (Option Reason) Global → List (Option Reason)
items form = form.items

pub loop-place-preserved : goal.loop-place-preserved
loop-place-preserved g c =
    let f = c.args.format in
    let t = c.args.rules.now in
    let reasons = c.args.reasons.now in
    let forms = c.reasons.inside.forms.items in
    let place = c.loop-place.place in
    let count : length reasons ≡ length forms = sym (ap (λ (xs : List (List (Option Reason))). length xs) c.reasons.view_is) ∙ length-map forms items in
    let within = c.loop-place-test.true in
    let own : c.deref.result.now ≡ slice_index_or reasons place [] =
    c.deref.ensures.value ∙ ap items c.index.ensures ∙ sym (get_or-map items forms place c.index.result.now [] (omega (arith, within, c.len-place-end.ensures)))
    ∙ ap (λ (xs : List (List (Option Reason))). slice_index_or xs place []) c.reasons.view_is in
    let bidders = c.args.bidders.now in
    let old : Adds g.S.Sink.state c.loop-place.writer c.match-last_form.writer (replaced_lines f t bidders (place + 1)) =
    elim c.match-last_form.branch [
      | in-Some w ↦ rw w.writer-is (Adds-to w.add_replaced_by.ensures (ap (λ (o : Option ℕ). option_map_or (λ (last : ℕ). flat_map
          (λ (number : ℕ). cond (number == last) [] (replaced f t (place + 1) last number)) (forms_by bidders (place + 1))) o [])
          (sym w.in-Some.is ∙ c.last_form.ensures)))
      | in_default w ↦ rw w.writer-is (Adds-to (search rules) (ap (λ (o : Option ℕ). option_map_or (λ (last : ℕ). flat_map
          (λ (number : ℕ). cond (number == last) [] (replaced f t (place + 1) last number)) (forms_by bidders (place + 1))) o [])
          w.in_default.ensures))
    ] in
    Adds-to (Adds-then c.loop-place.invariant (Adds-then old
    (Adds-to c.add_form.ensures (ap (λ (reasons : List (Option Reason)). form_lines f t (place + 1) reasons) own))))
    (numbered-next (λ (numbered : ℕ × List (Option Reason)). replaced_lines f t c.args.bidders.now numbered.0 ++ form_lines f t numbered.0
    numbered.1) reasons place [] (omega (arith, within, c.len-place-end.ensures)))

pub returns : goal.returns
returns g c =
    let f = c.args.format in
    let t = c.args.rules.now in
    let reasons = c.args.reasons.now in
    let forms = c.reasons.inside.forms.items in
    let count : length reasons ≡ length forms = sym (ap (λ (xs : List (List (Option Reason))). length xs) c.reasons.view_is) ∙ length-map forms items in
    Adds-to c.loop-place.invariant (numbered-all (λ (numbered : ℕ × List (Option Reason)). replaced_lines f t c.args.bidders.now numbered.0 ++
    form_lines f t numbered.0 numbered.1) reasons c.loop-place.place (omega (arith, c.loop-place-test.false, c.len-place-end.ensures)))
