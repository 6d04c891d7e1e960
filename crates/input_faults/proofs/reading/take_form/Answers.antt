use Rattle.std.proofs.Common.{ap}
use Rattle.auction_input.specs.ParsedTexts.{parsed_form}
use Rattle.auction_input.specs.declared.refusal.Refusal.TheVariants as refusal
use Rattle.auction_terms.specs.Records.{records_of}
use Rattle.auction_terms.specs.Stages.{refused_as}
use Rattle.bid_forms.specs.FormText.{form_faults, form_of_records}
use Rattle.bid_forms.specs.declared.form_text.FormFault.TheVariants as form
use Rattle.input_faults.proofs.InputBeginsFacts.{begin-one-form}
use Rattle.input_faults.proofs.TextFacts.{judged-sized, nothing-more, some-refused}
use Rattle.input_faults.specs.declared.fault.Fault.TheVariants as fault
use Rattle.input_faults.proofs.reading.take_form.Goals as goal

pub returns-in-Ok : goal.returns-in-Ok
returns-in-Ok c =
    let text = c.args.text.now in
    let t = c.args.rules.now in
    let judged = judged-sized form.TooLarge text (form_of_records t (records_of text)) (form_faults t (records_of text)) _
    c.in_ok-form.ensures.too_large c.in_ok-form.ensures.answer in
    let reported = ap (refused_as (refusal.Form c.args.number)) (rw c.in-Ok.is at judged) in
    record { faults = nothing-more c.args.faults.now _ _ _ (begin-one-form t c.args.number text) reported; form = reported }

pub returns-in_ok-add_form-in-Err : goal.returns-in_ok-add_form-in-Err
returns-in_ok-add_form-in-Err c =
    let text = c.args.text.now in
    let t = c.args.rules.now in
    let judged = judged-sized form.TooLarge text (form_of_records t (records_of text)) (form_faults t (records_of text)) _
    c.in_ok-form.ensures.too_large c.in_ok-form.ensures.answer in
    let (some, held) = rw c.in-Err.is at judged in
    record {
      faults = c.in_ok-add_form-in-Err.ensures _ held;
      form = some-refused (fault.Form c.args.number) _ (parsed_form t c.args.number text) (begin-one-form t c.args.number text) some;
    }
