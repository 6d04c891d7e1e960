use Rattle.std.proofs.Common.{◌≡◌, ◌≤◌, ◌+◌, ◌++◌, ◌∷◌, ◌∙◌, ◌<◌, [], ap, append-nil, append_assoc, arith, drop, drop_of_length-le, length, sym}
use Rattle.std.specs.Prelude.{codes}
use Rattle.csv.specs.Records.{fields_of}
use Rattle.auction_terms.proofs.JudgeFacts.{holds-both}
use Rattle.auction_terms.specs.Judged.{fault_at, fault_of}
use Rattle.auction_terms.specs.RulesText.{record_field}
use Rattle.bid_forms.proofs.RecordFacts.{fields-more}
use Rattle.bid_forms.specs.FormText.{field_faults, is_number_text}
use Rattle.bid_forms.specs.declared.form_text.FormFault.TheVariants as fault
use Rattle.bid_forms.proofs.form_records.add_texts.Goals as goal

pub loop-n-preserved : goal.loop-n-preserved
loop-n-preserved c =
    let (so_far, is, told) = c.loop-n.invariant in
    let r = fields_of c.args.row.now in
    let n = c.loop-n.n in
    let f = fault.QuantityText c.args.place in
    let cause = codes "isn't 1 to 18 digits" in
    let small : n < length r = (let s = c.loop-n-test.true in let e = c.len-n-end.ensures in omega arith) in
    let own = fault_of ((is_number_text (record_field (n + 1) r), fault_at (n + 1) (record_field (n + 1) r) f cause) ∷ []) in
    let added = rw (c.text_fault.ensures, c.field.ensures) at c.in_ok-add_any.ensures in (
      so_far ++ own,
      is ∙ ap (λ fields. so_far ++ field_faults is_number_text f cause (n + 1) fields) (fields-more r n small)
          ∙ sym (append_assoc so_far own (field_faults is_number_text f cause (n + 1 + 1) (drop (n + 1) r))),
      holds-both _ _ _ _ _ told added,
    )

pub returns : goal.returns
returns c =
    let (so_far, is, told) = c.loop-n.invariant in
    let r = fields_of c.args.row.now in
    let n = c.loop-n.n in
    let f = fault.QuantityText c.args.place in
    let cause = codes "isn't 1 to 18 digits" in
    let long : length r ≤ n = (let s = c.loop-n-test.false in let e = c.len-n-end.ensures in omega arith) in
    let none : drop n r ≡ [] = drop_of_length-le r long in
    rw (is ∙ ap (λ fields. so_far ++ field_faults is_number_text f cause (n + 1) fields) none ∙ append-nil so_far) told
