use Rattle.std.proofs.Common.{List, inr, refl, subst}
use Rattle.auction_terms.specs.declared.bids.Choice.{Choice}
use Rattle.byte_sinks.specs.Sinks.{GoesInPart, GoesWhole, written_of}
use Rattle.outcome.specs.Report.{report_text}
use Rattle.bid_desk.specs.Sale.{sale_of}
use Rattle.answers.specs.Answer.{output_of}
use Rattle.auction_input.specs.declared.request.Request.TheVariants as request
use Rattle.auction_input.specs.Settled.{held}
use Rattle.answers.specs.Exact.{Ends, by_refusal}
use Rattle.auction_input.specs.declared.refusal.Refusal.TheVariants as refusal
use Rattle.answers.proofs.CommandFacts.{cut-short}
use Rattle.auction_input.proofs.StepFacts.{if-err-of}
use Rattle.auction_input.proofs.StageFacts.{next, stop}
use Rattle.answers.proofs.commands.report.write_costs.Goals as goal

pub returns-clause-written : goal.returns-clause-written
returns-clause-written g c =
    let auction = c.args.auction.now in
    let all = c.in_ok-won.won.items in
    let sent = subst (λ (won : List (List Choice)). GoesWhole (g.S.Sink.state c.args.out.now) (g.S.Sink.state c.report.new.sink)
    (report_text (sale_of auction.book) auction.groups won)) c.as_slice.ensures.value c.in_ok-report.ensures in
    (report_text (sale_of auction.book) auction.groups all, next _ all _ _ c.in_ok-won.ensures.won refl, sent)

pub returns-in_err-check_counts-clause-refused : goal.returns-in_err-check_counts-clause-refused
returns-in_err-check_counts-clause-refused g c =
    let before = g.S.Sink.state c.args.out.now in
    let r = c.in_err-check_counts.field-0.0 in
    if-err-of (Ends (output_of (request.Report c.args.workers) (held c.args.auction.now)) before before) c.from_residual.result r c.from_residual.ensures.1
    (by_refusal (stop _ _ r c.in_err-check_counts.ensures.refuses) refl)

pub returns-in_err-compiler-clause-refused : goal.returns-in_err-compiler-clause-refused
returns-in_err-compiler-clause-refused g c =
    let before = g.S.Sink.state c.args.out.now in
    if-err-of (Ends (output_of (request.Report c.args.workers) (held c.args.auction.now)) before before)
    c.from_residual-in_err-compiler.result refusal.OutOfMemory c.from_residual-in_err-compiler.ensures.1
    (by_refusal (inr refl) refl)

pub returns-in_err-won-clause-refused : goal.returns-in_err-won-clause-refused
returns-in_err-won-clause-refused g c =
    let before = g.S.Sink.state c.args.out.now in
    let r = c.in_err-won.field-0.0 in
    if-err-of (Ends (output_of (request.Report c.args.workers) (held c.args.auction.now)) before before) c.from_residual-in_err-won.result r
    c.from_residual-in_err-won.ensures.1
    (by_refusal (stop _ _ r c.in_err-won.ensures.refuses) refl)

pub returns-in_err-report-clause-refused : goal.returns-in_err-report-clause-refused
returns-in_err-report-clause-refused g c =
    let auction = c.args.auction.now in
    let before = g.S.Sink.state c.args.out.now in
    let after = g.S.Sink.state c.report.new.sink in
    let all = c.in_ok-won.won.items in
    let f = c.in_err-report.field-0.0 in
    let sent = subst (λ (won : List (List Choice)). GoesInPart before after
    (report_text (sale_of auction.book) auction.groups won) (written_of f)) c.as_slice.ensures.value c.in_err-report.ensures in
    if-err-of (Ends (output_of (request.Report c.args.workers) (held auction)) before after) c.from_residual-in_err-report.result
    (refusal.Write f) c.from_residual-in_err-report.ensures.1
    (cut-short _ (report_text (sale_of auction.book) auction.groups all) before after f (next _ all _ _ c.in_ok-won.ensures.won refl) sent)
