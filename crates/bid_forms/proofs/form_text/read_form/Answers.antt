use Rattle.std.proofs.Common.{◌≤◌, ◌∙◌, Err, ap, arith, length, rules}
use Rattle.auction_terms.proofs.FirstFaultFacts.{answers-parsed}
use Rattle.auction_terms.specs.Records.{records_of}
use Rattle.bid_forms.proofs.FormFacts.{enough-first, enough-kept}
use Rattle.bid_forms.specs.FormText.{form_of_records, is_form_memory}
use Rattle.bid_forms.proofs.form_text.read_form.Goals as goal

pub index-requires : goal.index-requires
index-requires c =
    let kept : 1 ≤ length c.judge_records.new.faults.kept.items =
    enough-kept 1 c.new-faults.result c.judge_records.new.faults _ (omega arith) c.new-faults.ensures c.in_ok-form.ensures.found
    (rw c.in-None.is at c.in_ok-form.ensures.none) in
    search rules

pub returns-clause-answer : goal.returns-clause-answer
returns-clause-answer c small =
    let faults = c.judge_records.new.faults in
    let found = rw c.new-reader.ensures.all at c.in_ok-form.ensures.found in
    let some = rw (c.in-None.is, c.new-reader.ensures.all) at c.in_ok-form.ensures.none in
    let kept = enough-kept 1 c.new-faults.result faults _ (omega arith) c.new-faults.ensures found some in
    answers-parsed is_form_memory _ (form_of_records c.args.rules.now (records_of c.args.bytes.now))
    (ap (λ at. Err at.fault) c.index.ensures ∙ enough-first c.new-faults.result faults _ _ c.index.result.now c.new-faults.ensures found kept)
