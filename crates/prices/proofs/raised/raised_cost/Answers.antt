use Rattle.std.proofs.Common.{Some, ◌∙◌, ap, subst, sym, w64}
use mir.Val.{to_z, of_z}
use Rattle.auction_terms.specs.Terms.{lots_in}
use Rattle.bid_desk.specs.Closing.{book_of}
use Rattle.prices.proofs.CodeFacts.{IsCostOfBid, cost_as_it_is, cost_of_bid}
use Rattle.prices.proofs.raised.raised_cost.Goals as goal

pub surplus_of-requires-clause-one : goal.surplus_of-requires-clause-one
surplus_of-requires-clause-one c = c.requires.map c.in-Some.bid.bidder

module _ (c : goal.After-surplus_of) where
  of_bid : IsCostOfBid (to_z w64 (of_z w64 c.cost.result))
  of_bid = subst IsCostOfBid (sym (cost_as_it_is c.cost.result is_cost)) is_cost
    where
      is_cost : IsCostOfBid c.cost.result
      is_cost = cost_of_bid (lots_in c.args.payments.now.book.now.rules) (book_of c.args.payments.now.book.now) c.within_limits.ensures.book c.args.column
          c.in-Some.bid c.cost.result c.args.program.now c.requires.program (c.column_bid.ensures ∙ ap Some c.in-Some.is) c.cost.ensures

pub raised_by-requires-clause-low : goal.raised_by-requires-clause-low
raised_by-requires-clause-low c = (of_bid c).0

pub raised_by-requires-clause-high : goal.raised_by-requires-clause-high
raised_by-requires-clause-high c = (of_bid c).1
