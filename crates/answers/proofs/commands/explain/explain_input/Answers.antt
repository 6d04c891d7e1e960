use Rattle.std.proofs.Common.{◌≡◌, ap, false, inl, inr, rules, subst, true}
use Rattle.byte_sinks.specs.Sinks.{Outlet}
use Rattle.answers.specs.Answer.{answer}
use Rattle.answers.specs.Exact.{Writes}
use Rattle.answers.proofs.ExplainingFacts.{IsTextUnexplained, asks-bids, unasked, unreported}
use Rattle.auction_input.specs.declared.request.Request.TheVariants.{Explain}
use Rattle.auction_input.proofs.StepFacts.{if-err-of}
use Rattle.answers.proofs.commands.explain.explain_input.Goals as goal

pub returns-in_err-faulty-clause-refused : goal.returns-in_err-faulty-clause-refused
returns-in_err-faulty-clause-refused g c =
    let before = g.S.Sink.state c.args.out.now in
    let after = g.S.Sink.state c.explain.new.out in
    if-err-of (IsTextUnexplained c.args.options c.args.input.now before after) c.from_residual.result c.in_err-faulty.field-0.0
    c.from_residual.ensures.1 (inl c.in_err-faulty.ensures.refused)

pub returns-then-faulty-clause-explained : goal.returns-then-faulty-clause-explained
returns-then-faulty-clause-explained g c = (c.in_ok-faulty.ensures.faulty.0 c.if-faulty.true, c.in_ok-faulty.ensures.written)

pub returns-then-not-options-clause-explained : goal.returns-then-not-options-clause-explained
returns-then-not-options-clause-explained g c =
    let off : c.args.options.bids ≡ false = search rules in
    unasked c.args.options c.in_ok-faulty.faulty c.args.input.now (g.S.Sink.state c.args.out.now)
    (g.S.Sink.state c.explain.new.out) off c.if-faulty.false c.in_ok-faulty.ensures.faulty c.in_ok-faulty.ensures.written

pub returns-clause-explained : goal.returns-clause-explained
returns-clause-explained g c =
    let same = ap g.S.Sink.state (c.in_ok-faulty.ensures.untouched c.if-faulty.false) in
    subst (λ (sink : Outlet). Writes (answer (Explain c.args.options) c.args.input.now) sink
    (g.S.Sink.state c.answer_auction.new.out)) same c.in_ok-answer_auction.ensures.written

pub returns-in_err-answer_auction-clause-refused : goal.returns-in_err-answer_auction-clause-refused
returns-in_err-answer_auction-clause-refused g c =
    let same = c.in_ok-faulty.ensures.untouched c.if-faulty.false in
    let options = c.args.options in
    let input = c.args.input.now in
    let before = g.S.Sink.state c.args.out.now in
    let after = g.S.Sink.state c.answer_auction.new.out in
    let r = c.in_err-answer_auction.field-0.0 in
    let asked : options.bids ≡ true = search rules in
    if-err-of (IsTextUnexplained options input before after) c.from_residual-in_err-answer_auction.result r
    c.from_residual-in_err-answer_auction.ensures.1
    (inr (
      asks-bids options c.in_ok-faulty.faulty input asked c.if-faulty.false c.in_ok-faulty.ensures.faulty,
      unreported
          (Explain options) input _ before after r (ap g.S.Sink.state same)
          c.in_err-answer_auction.ensures.refused,
    ))
