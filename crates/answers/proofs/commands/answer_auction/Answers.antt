use Rattle.auction_input.specs.Settled.{held}
use Rattle.answers.specs.Exact.{IsUnwritten}
use Rattle.answers.proofs.AnswerFacts.{has-sold, no-auction, reads-auction, unwritten, written}
use Rattle.auction_input.proofs.StepFacts.{if-err-of, on-ok-given}
use Rattle.answers.proofs.commands.answer_auction.Goals as goal

pub read_auction-requires-clause-reads : goal.read_auction-requires-clause-reads
read_auction-requires-clause-reads g c κs within = reads-auction c.args.request.now c.requires.of_auction

pub returns-in_err-auction-clause-refused : goal.returns-in_err-auction-clause-refused
returns-in_err-auction-clause-refused g c =
    let asked = c.args.request.now in
    let input = c.args.input.now in
    let before = g.S.Sink.state c.args.out.now in
    let r = c.in_err-auction.field-0.0 in
    if-err-of (IsUnwritten asked input before before) c.from_residual.result r c.from_residual.ensures.1
    (no-auction asked input c.requires.of_auction before r c.in_err-auction.ensures.refuses)

pub returns-clause-written : goal.returns-clause-written
returns-clause-written g c =
    written c.args.request.now c.args.input.now c.requires.of_auction (held c.in_ok-auction.auction) c.in_ok-auction.ensures.parsed
    c.write_output.result (g.S.Sink.state c.args.out.now) (g.S.Sink.state c.write_output.new.out) c.write_output.ensures.written

pub returns-clause-refused : goal.returns-clause-refused
returns-clause-refused g c =
    unwritten c.args.request.now c.args.input.now c.requires.of_auction (held c.in_ok-auction.auction) c.in_ok-auction.ensures.parsed
    c.write_output.result (g.S.Sink.state c.args.out.now)
    (g.S.Sink.state c.write_output.new.out) c.write_output.ensures.refused

pub returns-clause-sold : goal.returns-clause-sold
returns-clause-sold g c = on-ok-given c.write_output.result (has-sold c.args.request.now c.args.input.now (held c.in_ok-auction.auction)
    c.requires.of_auction c.in_ok-auction.ensures.sold)
