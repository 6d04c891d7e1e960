use Rattle.std.proofs.Common.{ℤ, pos, ◌≤◌, ◌≤ℤ◌, ◌^◌, arith}
use Rattle.auction_terms.specs.Terms.{lots_in}
use Rattle.bid_desk.specs.Closing.{book_of}
use Rattle.outcome.specs.Report.{cost}
use Rattle.prices.proofs.FewFacts.{cost_few, product_few, product_fits, product_is}
use Rattle.prices.proofs.tight.cost_in_parts.Goals as goal

module _ (c : goal.After-from) where
  abbrev it : ℤ
  it = cost (lots_in c.args.payments.now.book.now.rules) (book_of c.args.payments.now.book.now) c.args.payments.now.first.now c.args.group.now c.args.without.now

  small : c.args.payments.now.parts ≤ 2 ^ 64
  small = let below = c.requires.parts in omega arith

  few : (pos 0 ≤ℤ it) × (it ≤ℤ pos (2 ^ 48))
  few = cost_few (lots_in c.args.payments.now.book.now.rules) (book_of c.args.payments.now.book.now) c.args.payments.now.first.now c.args.group.now c.args.without.now
      c.within_limits.ensures.book c.requires.first c.choices-rising.ensures.rising c.requires.without

pub overflow_mul-result : goal.overflow_mul-result
overflow_mul-result c = product_fits c.from.result c.cost-cost.result c.args.payments.now.parts (it c) c.from.ensures c.cost-cost.ensures (small c) (few c).0 (few c).1

pub returns-clause-product : goal.returns-clause-product
returns-clause-product c = product_is c.from.result c.cost-cost.result c.args.payments.now.parts (it c) c.from.ensures c.cost-cost.ensures (small c) (few c).0 (few c).1

pub returns-clause-low : goal.returns-clause-low
returns-clause-low c = rw (product_is c.from.result c.cost-cost.result c.args.payments.now.parts (it c) c.from.ensures c.cost-cost.ensures (small c)
    (few c).0 (few c).1) (product_few c.args.payments.now.parts (it c) (small c) (few c).0 (few c).1).0

pub returns-clause-high : goal.returns-clause-high
returns-clause-high c = rw (product_is c.from.result c.cost-cost.result c.args.payments.now.parts (it c) c.from.ensures c.cost-cost.ensures (small c)
    (few c).0 (few c).1) (product_few c.args.payments.now.parts (it c) (small c) (few c).0 (few c).1).1
