use Rattle.std.proofs.Common.{sym}
use Rattle.desk_book.proofs.Names.{called_again}
use Rattle.desk_book.proofs.calls.read_who.Goals as goal

pub returns-clause-maker : goal.returns-clause-maker
returns-clause-maker c = record {
  bidder = called_again c.args.rules.now c.in_ok-next.field-0.now c.in_ok-bidder.bidder (sym c.in_ok-bidder.ensures);
  session = c.in_ok-session.ensures.few;
  time = c.in_ok-time.ensures.few;
}
