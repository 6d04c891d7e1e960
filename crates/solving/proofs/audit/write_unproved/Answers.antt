use Rattle.auction_input.specs.Input.{text_bytes}
use Rattle.auction_input.specs.ParsedParts.{only_text}
use Rattle.auction_input.specs.declared.refusal.Refusal.TheVariants as refusal
use Rattle.auction_input.specs.declared.request.Request.TheVariants.{Report}
use Rattle.auction_input.proofs.StepFacts.{if-err-of}
use Rattle.solving.specs.Audits.{IsLeft}
use Rattle.solving.proofs.AuditFacts.{accepted-of, all-left, left-in-part}
use Rattle.solving.proofs.audit.write_unproved.Goals as goal

pub returns-in_err-input-clause-refused : goal.returns-in_err-input-clause-refused
returns-in_err-input-clause-refused g c = all-left _ _ _ c.from_residual.result

pub returns-in_err-answer-clause-refused : goal.returns-in_err-answer-clause-refused
returns-in_err-answer-clause-refused g c = all-left _ _ _ c.from_residual-in_err-answer.result

pub returns-in_err-write_text-clause-refused : goal.returns-in_err-write_text-clause-refused
returns-in_err-write_text-clause-refused g c =
    let asked = Report c.args.workers in
    let given = c.args.given.now in
    let before = g.S.Sink.state c.args.out.now in
    let after = g.S.Sink.state c.write_text.new.out in
    let input = c.in_ok-input.input in
    let fault = c.in_err-write_text.field-0.0 in
    let (report, is, sent) = c.in_ok-answer.ensures.written in
    let accepted = accepted-of asked given c.args.found.now input c.in_ok-input.ensures (report, is) c.in_ok-answer.ensures.sold in
    if-err-of (IsLeft asked given before after) c.from_residual-in_err-write_text.result (refusal.Write fault)
    c.from_residual-in_err-write_text.ensures.1
    (left-in-part asked given before after (only_text (text_bytes input)) fault accepted c.in_err-write_text.ensures)
