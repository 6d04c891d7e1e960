use Rattle.std.proofs.Common.{◌≡◌, ◌∙◌, ℕ, List, None, ap, ap₂, inr, refl, subst, true}
use Rattle.answers.specs.Answer.{output_of}
use Rattle.answers.specs.Exact.{Ends, by_refusal}
use Rattle.auction_input.specs.Settled.{held}
use Rattle.auction_input.specs.declared.refusal.Refusal.TheVariants as refusal
use Rattle.auction_terms.specs.Terms.{lots_in}
use Rattle.bid_desk.specs.Closing.{book_of}
use Rattle.byte_sinks.specs.Sinks.{GoesInPart, GoesWhole, written_of}
use Rattle.presolve.specs.Lines.{left_out_lines}
use Rattle.presolve.specs.Reasons.{reasons_of}
use Rattle.auction_input.specs.declared.request.Request.TheVariants as request
use Rattle.answers.proofs.CommandFacts.{cut-short}
use Rattle.auction_input.proofs.StepFacts.{if-err-of}
use Rattle.answers.proofs.commands.explain.write_left_out_of.Goals as goal

pub returns-in_err-reasons-clause-refused : goal.returns-in_err-reasons-clause-refused
returns-in_err-reasons-clause-refused g c =
    let before = g.S.Sink.state c.args.out.now in
    if-err-of (Ends (output_of (request.Explain (record { bids = true; target = None; format = c.args.format })) (held c.args.auction.now)) before before) c.from_residual.result
    refusal.OutOfMemory c.from_residual.ensures.1 (by_refusal (inr refl) refl)

pub returns-clause-written : goal.returns-clause-written
returns-clause-written g c =
    let book = c.args.auction.now.book in
    let bidders = c.args.auction.now.form_bidders.items in
    let text = left_out_lines c.args.format book.rules bidders (reasons_of (lots_in book.rules) (book_of book)) in
    let same : left_out_lines c.args.format c.rules.result.now c.as_slice.result.now c.in_ok-reasons.reasons ≡ text =
    ap₂ (λ t reasons. left_out_lines c.args.format t c.as_slice.result.now reasons) c.rules.ensures.rules c.in_ok-reasons.ensures
    ∙ ap (λ (bs : List ℕ). left_out_lines c.args.format book.rules bs (reasons_of (lots_in book.rules) (book_of book))) c.as_slice.ensures.value in (
      text,
      refl,
      subst (λ (bytes : List ℕ). GoesWhole (g.S.Sink.state c.args.out.now) (g.S.Sink.state c.write_left_out.new.out)
          bytes) same c.in_ok-write_left_out.ensures,
    )

pub returns-in_err-write_left_out-clause-refused : goal.returns-in_err-write_left_out-clause-refused
returns-in_err-write_left_out-clause-refused g c =
    let book = c.args.auction.now.book in
    let bidders = c.args.auction.now.form_bidders.items in
    let text = left_out_lines c.args.format book.rules bidders (reasons_of (lots_in book.rules) (book_of book)) in
    let before = g.S.Sink.state c.args.out.now in
    let after = g.S.Sink.state c.write_left_out.new.out in
    let f = c.in_err-write_left_out.field-0.0 in
    let same : left_out_lines c.args.format c.rules.result.now c.as_slice.result.now c.in_ok-reasons.reasons ≡ text =
    ap₂ (λ t reasons. left_out_lines c.args.format t c.as_slice.result.now reasons) c.rules.ensures.rules c.in_ok-reasons.ensures
    ∙ ap (λ (bs : List ℕ). left_out_lines c.args.format book.rules bs (reasons_of (lots_in book.rules) (book_of book))) c.as_slice.ensures.value in
    if-err-of (Ends (output_of (request.Explain (record { bids = true; target = None; format = c.args.format })) (held c.args.auction.now)) before after)
    c.from_residual-in_err-write_left_out.result (refusal.Write f) c.from_residual-in_err-write_left_out.ensures.1
    (cut-short _ text before after f refl (subst (λ (bytes : List ℕ). GoesInPart before after bytes (written_of f)) same
    c.in_err-write_left_out.ensures))
