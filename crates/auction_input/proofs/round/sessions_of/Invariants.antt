use Rattle.std.proofs.Common.{◌≡◌, ◌++◌, All, Err, Ok, map, Any}
use Rattle.auction_input.specs.declared.round.RoundFault.TheVariants.{WrongAnswer}
use Rattle.auction_input.proofs.round.sessions_of.Given as goal

abbrev pub invariant-loop-job : goal.invariant-loop-job
invariant-loop-job g l =
    (l.sessions.items ≡ l.fn.others.items ++ map (λ job. job.session) l.yielded)
    × (l.ended ≡ Ok tt → All (λ job. job.ended ≡ Ok tt) l.yielded)
    × (l.ended ≡ Err WrongAnswer → Any (λ job. job.ended ≡ Err WrongAnswer) l.yielded)
    × (l.yielded ++ l.job-iterator.rest.items ≡ l.fn.done.items)
