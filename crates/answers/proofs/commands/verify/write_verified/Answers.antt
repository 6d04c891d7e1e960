use Rattle.std.proofs.Common.{inl, refl}
use Rattle.auction_input.specs.Settled.{held}
use Rattle.auction_input.specs.declared.refusal.Refusal.TheVariants as refusal
use Rattle.auction_input.specs.declared.request.Request.TheVariants as request
use Rattle.answers.specs.Output.{IsWithoutOutput}
use Rattle.answers.specs.inside.Proved.{outcome_held, proved_text}
use Rattle.auction_input.proofs.StageFacts.{next}
use Rattle.auction_input.proofs.StepFacts.{if-err-of}
use Rattle.answers.proofs.CommandFacts.{cut-short}
use Rattle.answers.proofs.VerifiedFacts.{true-report, verdicts}
use Rattle.answers.proofs.VerifyFacts.{unproved}
use Rattle.answers.proofs.commands.verify.write_verified.Goals as goal

pub returns-clause-written : goal.returns-clause-written
returns-clause-written g c = (
  proved_text c.args.auction.now c.in_ok-proved.proved,
  next _ (outcome_held c.in_ok-proved.proved) _ _ c.in_ok-proved.ensures.shown refl,
  rw c.as_slice.ensures.value at c.in_ok-report_with.ensures,
)

pub returns-clause-true_report : goal.returns-clause-true_report
returns-clause-true_report g c =
    let auction = held c.args.auction.now in
    let o = outcome_held c.in_ok-proved.proved in
    let out = proved_text c.args.auction.now c.in_ok-proved.proved in
    let limits = c.within_limits.ensures in
    record {
      out = out;
      is_true = true-report auction o limits.book limits.bidders (verdicts auction o c.in_ok-proved.ensures.shown);
      sent = (rw c.as_slice.ensures.value at c.in_ok-report_with.ensures).taken;
    }

pub returns-in_err-proved-clause-refused : goal.returns-in_err-proved-clause-refused
returns-in_err-proved-clause-refused g c =
    let auction = held c.args.auction.now in
    let before = g.S.Sink.state c.args.out.now in
    let r = c.in_err-proved.field-0.0 in
    if-err-of (IsWithoutOutput (request.Verify c.args.workers) auction before before) c.from_residual.result r c.from_residual.ensures.1
    (unproved c.args.workers auction before r c.in_err-proved.ensures.refused)

pub returns-in_err-report_with-clause-refused : goal.returns-in_err-report_with-clause-refused
returns-in_err-report_with-clause-refused g c =
    let before = g.S.Sink.state c.args.out.now in
    let after = g.S.Sink.state c.report_with.new.sink in
    let f = c.in_err-report_with.field-0.0 in
    if-err-of (IsWithoutOutput (request.Verify c.args.workers) (held c.args.auction.now) before after) c.from_residual-in_err-report_with.result
    (refusal.Write f) c.from_residual-in_err-report_with.ensures.1
    (inl (cut-short _ (proved_text c.args.auction.now c.in_ok-proved.proved) before after f
    (next _ (outcome_held c.in_ok-proved.proved) _ _ c.in_ok-proved.ensures.shown refl) (rw c.as_slice.ensures.value at c.in_err-report_with.ensures)))
