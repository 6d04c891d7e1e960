use Rattle.std.proofs.Common.{◌≡◌, IfErr, List, OnOk, Result, false, inl, refl, rules, subst, sym, true, ℕ, []}
use Rattle.answers.specs.Answer.{output_of}
use Rattle.answers.specs.Exact.{Ends, Writes, by_refusal}
use Rattle.answers.proofs.ExplainingFacts.{as-unasked, bids-as, bids-refused}
use Rattle.auction_input.specs.Settled.{held}
use Rattle.auction_input.specs.declared.refusal.Refusal.{Refusal}
use Rattle.byte_sinks.proofs.AddingFacts.{goes-nothing}
use Rattle.auction_input.proofs.StepFacts.{if-err-of}
use Rattle.auction_input.specs.declared.request.Request.TheVariants as request
use Rattle.answers.proofs.commands.explain.write_bids_of.Goals as goal

pub returns-in_err-check_wanted-clause-refused : goal.returns-in_err-check_wanted-clause-refused
returns-in_err-check_wanted-clause-refused g c =
    let auction = held c.args.auction.now in
    let before = g.S.Sink.state c.args.out.now in
    let r = c.in_err-check_wanted.field-0.0 in
    if-err-of (Ends (output_of (request.Explain c.args.options) auction) before before) c.from_residual.result r c.from_residual.ensures.1
    (by_refusal (inl (bids-refused c.args.options auction r c.in_err-check_wanted.ensures.unmet)) refl)

pub returns-then-options-clause-written : goal.returns-then-options-clause-written
returns-then-options-clause-written g c =
    let asked : c.args.options.bids ≡ true = search rules in
    subst (λ (parsed : Result (List ℕ) Refusal). OnOk c.write_left_out_of.result
    (Writes parsed (g.S.Sink.state c.args.out.now) (g.S.Sink.state c.write_left_out_of.new.out)))
    (sym (bids-as c.args.options (held c.args.auction.now) asked c.in_ok-check_wanted.ensures.met)) c.write_left_out_of.ensures.written

pub returns-then-options-clause-refused : goal.returns-then-options-clause-refused
returns-then-options-clause-refused g c =
    let asked : c.args.options.bids ≡ true = search rules in
    subst (λ (parsed : Result (List ℕ) Refusal). IfErr c.write_left_out_of.result
    (Ends parsed (g.S.Sink.state c.args.out.now)
    (g.S.Sink.state c.write_left_out_of.new.out)))
    (sym (bids-as c.args.options (held c.args.auction.now) asked c.in_ok-check_wanted.ensures.met)) c.write_left_out_of.ensures.refused

pub returns-clause-written : goal.returns-clause-written
returns-clause-written g c =
    let off : c.args.options.bids ≡ false = search rules in
    ([], as-unasked c.args.options (held c.args.auction.now) off c.in_ok-check_wanted.ensures.met, goes-nothing (g.S.Sink.state c.args.out.now))
