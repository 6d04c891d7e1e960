use Rattle.answers.proofs.VerifiedFacts.{writes-true-on}
use Rattle.answers.proofs.commands.verify.verify.Goals as goal

pub returns-clause-true_report : goal.returns-clause-true_report
returns-clause-true_report g c =
    writes-true-on c.args.workers c.args.input.now c.answer_auction.result (g.S.Sink.state c.args.out.now)
    (g.S.Sink.state c.answer_auction.new.out) c.answer_auction.ensures.written
