use Rattle.std.proofs.Common.{arith, sym, subst, slice_index_or}
use Rattle.rayon.proofs.ListFacts.{IfOk-then}
use Rattle.auction_input.specs.inside.Submissions.{ComesTo, JobOwn}
use Rattle.auction_input.specs.declared.bidder_thread.Done.{Done}
use Rattle.auction_input.proofs.SubmissionFacts.{zip-of-vec}
use Rattle.auction_input.proofs.round.run_each.Goals as goal

pub returns : goal.returns
returns g c =
    let end_of = λ (job : JobOwn) (d : Done g.row.L.Denot). ComesTo job d.session d.ended in
    zip-of-vec end_of c.args.jobs.items c.args.jobs.len c.map_vec.result (let same = c.args.jobs.ok.0 in omega arith) c.map_vec.ensures.len
    (IfOk-then c.map_vec.result _ _ c.map_vec.ensures.each (λ v each k d e small.
    let given = (each k e small).1 in
    subst (λ (job : JobOwn). end_of job (slice_index_or v.items k e)) (sym (given.job_is d)) given.call.met))
