use Rattle.auction_terms.specs.Lines.{bytes_of}
use Rattle.answers.proofs.ReportFacts.{parsed-by}
use Rattle.answers.proofs.report_run.Winning.answer.Goals as goal

pub returns : goal.returns
returns c =
    parsed-by c.args.self.now.compiler.now (bytes_of c.args.self.now.solutions.now) c.args.number c.group-group.result.now
    c.text_at-text.result.now c.won_by_all.result c.group-group.ensures c.text_at-text.ensures c.won_by_all.ensures.won
    c.won_by_all.ensures.refuses
