use Rattle.std.proofs.Common.{◌≡◌, ◌≤◌, ◌*◌, ◌^◌, arith}
use Rattle.auction_terms.specs.Allocations.{total}
use Rattle.auction_terms.specs.Terms.{lots_in}
use Rattle.bid_desk.specs.Closing.{book_of}
use Rattle.outcome.specs.Pricing.{price_in}
use Rattle.prices.proofs.CodeFacts.{total_is}
use Rattle.prices.proofs.FewFacts.{product_of, total_few, total_in_parts_few}
use Rattle.prices.proofs.payments.revenue_of.Goals as goal

module _ (c : goal.After-total) where
  few : c.from.result * c.total.result ≤ 2 ^ 90
  few =
      let most = total_few (lots_in c.args.payments.now.book.now.rules) (book_of c.args.payments.now.book.now) c.args.payments.now.first.now
      c.within_limits.ensures.lots c.within_limits.ensures.book c.requires.feasible c.choices-rising.ensures.rising in
      let sum = c.total.ensures.sum in
      let parts = c.from.ensures in
      let few_parts = c.requires.parts in
      total_in_parts_few c.from.result c.total.result (omega arith) (omega arith)

pub overflow_mul-result : goal.overflow_mul-result
overflow_mul-result c = let most = few c in record { fits = omega arith }

module _ (c : goal.After-gains_of) where
  product : c.from.result * c.total.result ≡ c.args.payments.now.parts
      * total (lots_in c.args.payments.now.book.now.rules) (book_of c.args.payments.now.book.now) c.args.payments.now.first.now
  product = product_of c.from.result c.total.result _ _ c.from.ensures c.total.ensures.sum

pub overflow_sub-result : goal.overflow_sub-result
overflow_sub-result c =
    let payments = c.args.payments.now in
    omega (
      arith,
      c.gains_of.ensures,
      product c,
      total_is (lots_in payments.book.now.rules) (book_of payments.book.now) payments.first.now payments.parts
          (price_in payments.prices.now) c.requires.prices,
    )

pub returns-clause-revenue : goal.returns-clause-revenue
returns-clause-revenue c =
    let payments = c.args.payments.now in
    omega (
      arith,
      c.gains_of.ensures,
      product c,
      total_is (lots_in payments.book.now.rules) (book_of payments.book.now) payments.first.now payments.parts
          (price_in payments.prices.now) c.requires.prices,
    )

pub returns-clause-small : goal.returns-clause-small
returns-clause-small c =
    let most = total_few (lots_in c.args.payments.now.book.now.rules) (book_of c.args.payments.now.book.now) c.args.payments.now.first.now
    c.within_limits.ensures.lots c.within_limits.ensures.book c.requires.feasible c.choices-rising.ensures.rising in
    let sum = c.total.ensures.sum in
    let parts = c.from.ensures in
    let few_parts = c.requires.parts in
    let all = total_in_parts_few c.from.result c.total.result (omega arith) (omega arith) in
    omega arith
