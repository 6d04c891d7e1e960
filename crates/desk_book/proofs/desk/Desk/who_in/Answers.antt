use Rattle.std.proofs.Common.{◌∙◌, ap, sym}
use Rattle.auction_terms.specs.Terms.{Terms}
use Rattle.desk_book.specs.Calls.{bidder_called}
use Rattle.desk_book.proofs.Names.{called_again}
use Rattle.desk_book.proofs.desk.Desk.who_in.Goals as goal

pub returns-clause-maker : goal.returns-clause-maker
returns-clause-maker g c = record {
  bidder = called_again c.args.self.now.rules c.args.head.now.bidder.now c.in_ok-bidder.bidder
      (ap (λ (r : Terms). bidder_called r c.args.head.now.bidder.now) (sym c.rules.ensures) ∙ sym c.in_ok-bidder.ensures);
  session = c.if-session-gt-MOST_SESSIONS.false;
  time = c.in_ok-time.ensures.bound;
}
