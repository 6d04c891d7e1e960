use Rattle.std.proofs.Common.{◌≡◌, [], All}
use Rattle.bid_desk.specs.Holding.{SessionOwn}
use Rattle.auction_input.specs.inside.Submissions.{IsFirstJob, IsIdle}
use Rattle.auction_input.proofs.round.jobs_of.Given as goal

abbrev pub invariant-loop-session : goal.invariant-loop-session
invariant-loop-session g l =
    (goal.iterator-loop-session g).can_next l.session-iterator × (goal.iterator-loop-session g).is_finite l.session-iterator
    × All (λ (s : SessionOwn). s.pairs ≡ []) l.session-iterator.rest.items × All (IsFirstJob l.lists) l.jobs.items × All (IsIdle l.lists) l.others.items
