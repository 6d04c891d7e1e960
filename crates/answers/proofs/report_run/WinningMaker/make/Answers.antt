use Rattle.auction_terms.specs.Lines.{bytes_of}
use Rattle.answers.proofs.ReportFacts.{made-by}
use Rattle.answers.proofs.report_run.WinningMaker.make.Goals as goal

pub returns : goal.returns
returns c =
    made-by c.args.self.now.compiler.now (bytes_of c.args.self.now.solutions.now) c.args.number c.group-group.result.now
    c.text_at-text.result.now c.in_ok-won.won c.group-group.ensures c.text_at-text.ensures c.in_ok-won.ensures.won
