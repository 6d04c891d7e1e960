use Rattle.std.proofs.Common.{inl, refl}
use Rattle.answers.specs.Exact.{IsUnwritten, by_refusal}
use Rattle.answers.specs.inside.Forms.{forms_request, held_as}
use Rattle.auction_input.specs.declared.refusal.Refusal.TheVariants as refusal
use Rattle.answers.proofs.CommandFacts.{cut-short}
use Rattle.answers.proofs.FormsFacts.{refused-forms, text-held}
use Rattle.auction_input.proofs.StepFacts.{if-err-of}
use Rattle.answers.proofs.commands.forms.write_forms.Goals as goal

pub returns-in_err-parts-clause-refused : goal.returns-in_err-parts-clause-refused
returns-in_err-parts-clause-refused g c =
    let before = g.S.Sink.state c.args.out.now in
    let r = c.in_err-parts.field-0.0 in
    if-err-of (IsUnwritten (forms_request c.args.format) c.args.input.now before before) c.from_residual.result r c.from_residual.ensures.1
    (inl (by_refusal (refused-forms c.args.format c.args.input.now r c.in_err-parts.ensures.refuses) refl))

pub returns-in_err-write_parts-clause-refused : goal.returns-in_err-write_parts-clause-refused
returns-in_err-write_parts-clause-refused g c =
    let input = c.args.input.now in
    let parts = c.in_ok-parts.parts in
    let before = g.S.Sink.state c.args.out.now in
    let after = g.S.Sink.state c.write_parts.new.out in
    let f = c.in_err-write_parts.field-0.0 in
    if-err-of (IsUnwritten (forms_request c.args.format) input before after) c.from_residual-in_err-write_parts.result (refusal.Write f)
    c.from_residual-in_err-write_parts.ensures.1
    (inl (cut-short _ (held_as c.args.format parts) before after f (text-held c.args.format input parts c.in_ok-parts.ensures.parsed) c.in_err-write_parts.ensures))

pub returns-clause-written : goal.returns-clause-written
returns-clause-written g c =
    let parts = c.in_ok-parts.parts in
    (held_as c.args.format parts, text-held c.args.format c.args.input.now parts c.in_ok-parts.ensures.parsed, c.in_ok-write_parts.ensures)
