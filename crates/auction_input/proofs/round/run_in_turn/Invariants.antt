use Rattle.std.proofs.Common.{◌≡◌, ◌++◌}
use Rattle.std.specs.List.{AllZip}
use Rattle.auction_input.specs.inside.Submissions.{ComesTo}
use Rattle.auction_input.proofs.round.run_in_turn.Given as goal

abbrev pub invariant-loop-job : goal.invariant-loop-job
invariant-loop-job g l =
    AllZip (λ job end. ComesTo job end.session end.ended) l.yielded l.done.items
    × (l.yielded ++ l.job-iterator.rest.items ≡ l.fn.jobs.items)
