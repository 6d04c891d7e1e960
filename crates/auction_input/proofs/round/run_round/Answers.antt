use Rattle.std.proofs.Common.{◌≡◌, [], sym, subst, All}
use Rattle.bid_desk.specs.Holding.{SessionOwn}
use Rattle.auction_input.proofs.StandingFacts.{round-submitted}
use Rattle.auction_input.proofs.SubmissionFacts.{all-fresh}
use Rattle.auction_input.proofs.round.run_round.Goals as goal

pub make_calls-requires-clause-fresh : goal.make_calls-requires-clause-fresh
make_calls-requires-clause-fresh g c = λ _ _.
    subst (All (λ (s : SessionOwn). s.pairs ≡ [])) (sym c.in-Ok.ensures.sessions) (all-fresh 1 c.args.rules.bidders)

pub returns-clause-submitted : goal.returns-clause-submitted
returns-clause-submitted g c =
    round-submitted c.settle.result g.L.Round.rules _ c.in_ok-sessions.sessions.items c.args.lists.now c.requires.terms
    c.settle.ensures.rules c.settle.ensures.settled c.in_ok-sessions.ensures
