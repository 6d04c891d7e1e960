use Rattle.auction_input.proofs.SubmissionFacts.{fresh-first, fresh-rest}
use Rattle.auction_input.proofs.round.jobs_of.Goals as goal

pub add_session-requires-clause-fresh : goal.add_session-requires-clause-fresh
add_session-requires-clause-fresh g c = fresh-first c.loop-session.session-iterator.rest.items c.next.new.self.rest.items c.in-Some.session
    c.in-Some.ensures.steps.0 c.loop-session.invariant.2

pub loop-session-preserved : goal.loop-session-preserved
loop-session-preserved g c =
    let invariant = c.loop-session.invariant in (
      tt,
      tt,
      fresh-rest c.loop-session.session-iterator.rest.items c.next.new.self.rest.items c.in-Some.session c.in-Some.ensures.steps.0 invariant.2,
      c.in_ok-add_session.ensures.jobs invariant.3,
      c.in_ok-add_session.ensures.others invariant.4,
    )
