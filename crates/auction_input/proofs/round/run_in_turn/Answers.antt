use Rattle.std.proofs.Common.{◌++◌, ◌∷◌, [], subst, sym}
use Rattle.std.specs.List.{AllZip}
use Rattle.auction_input.specs.inside.Submissions.{ComesTo, JobOwn}
use Rattle.auction_input.specs.declared.bidder_thread.Done.{Done}
use Rattle.auction_input.proofs.SubmissionFacts.{yielded-more}
use Rattle.std.proofs.lemmas.Slice.Zip.{all_zipped_more}
use Rattle.auction_input.proofs.round.run_in_turn.Goals as goal

pub loop-job-preserved : goal.loop-job-preserved
loop-job-preserved g c =
    let end_of = λ (job : JobOwn) (d : Done g.row.L.Denot). ComesTo job d.session d.ended in
    let invariant = c.loop-job.invariant in
    let yielded = c.loop-job.yielded in
    let job = c.in-Some.job in (
      subst (AllZip end_of (yielded ++ job ∷ [])) (sym c.in_ok-push.ensures.items)
          (all_zipped_more end_of yielded c.loop-job.done.items job c.run.result invariant.0 c.run.ensures),
      yielded-more yielded c.loop-job.job-iterator.rest.items c.next.new.self.rest.items c.args.jobs.items job c.in-Some.ensures.steps.0 invariant.1,
    )
