use Rattle.auction_input.specs.declared.bidder_thread.Done.{Done}
use Rattle.auction_input.proofs.SubmissionFacts.{lists-submitted}
use Rattle.auction_input.proofs.round.submit_all.Goals as goal

pub returns : goal.returns
returns g c =
    lists-submitted c.args.lists.now (λ (d : Done g.row.L.Denot). d.session) (λ (d : Done g.row.L.Denot). d.ended) c.in_ok-jobs.others.items
    c.in_ok-jobs.jobs.items c.in_ok-done.done.items c.sessions_of.result
    c.in_ok-jobs.ensures.others c.in_ok-done.ensures c.in_ok-jobs.ensures.jobs c.sessions_of.ensures.ended c.sessions_of.ensures.sessions
