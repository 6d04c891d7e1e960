use Rattle.std.proofs.Common.{◌++◌, ◌∷◌, []}
use Rattle.auction_input.proofs.SubmissionFacts.{ended-more, pushed, sessions-more, wrong-more, yielded-more}
use Rattle.auction_input.specs.declared.bidder_thread.Done.{Done}
use Rattle.auction_input.specs.declared.round.RoundFault.TheVariants.{WrongAnswer}
use Rattle.auction_input.proofs.round.sessions_of.Goals as goal

pub loop-job-preserved : goal.loop-job-preserved
loop-job-preserved g c =
    let session_of = λ (d : Done g.row.L.Denot). d.session in
    let ended_of = λ (d : Done g.row.L.Denot). d.ended in
    let invariant = c.loop-job.invariant in
    let yielded = c.loop-job.yielded in
    let job = c.in-Some.job in
    let before = c.loop-job.sessions.items in
    let after = c.push.new.self.items in (
      sessions-more session_of ended_of yielded job c.args.others.items before after
          (pushed c.push.result before (before ++ job.session ∷ []) after c.if-is_err.ensures.value c.push.ensures.items) invariant.0,
      ended-more session_of ended_of yielded job c.loop-job.ended c.first_of-ended.result c.first_of-ended.ensures.ok invariant.1,
      wrong-more session_of ended_of yielded job c.loop-job.ended c.first_of-ended.result WrongAnswer c.first_of-ended.ensures.wrong invariant.2,
      yielded-more yielded c.loop-job.job-iterator.rest.items c.next.new.self.rest.items c.args.done.items job c.in-Some.ensures.steps.0 invariant.3,
    )
