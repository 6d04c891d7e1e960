use Rattle.std.proofs.Common.{◌<◌, ◌+◌, ◌-◌, ap, arith, length, slice_index_or}
use Rattle.auction_terms.specs.Terms.{lots_in}
use Rattle.bid_desk.specs.Closing.{book_of}
use Rattle.outcome.specs.Pricing.{price_in}
use Rattle.prices.specs.Rule.{is_tight}
use Rattle.prices.proofs.FewFacts.{as_many_won, greatest_at}
use Rattle.prices.proofs.ShownFacts.{group_fails, group_passes, tight_is}
use Rattle.prices.proofs.tight.are_tight_groups.Goals as goal

pub bounds-listed-place : goal.bounds-listed-place
bounds-listed-place c = omega (
  arith,
  c.loop-place-test.true,
  c.count-count.ensures.count,
  as_many_won (lots_in c.args.payments.now.book.now.rules) (book_of
      c.args.payments.now.book.now) c.args.listed.now.groups.now c.args.listed.now.won.now c.requires.without,
)

pub is_tight-requires-clause-without : goal.is_tight-requires-clause-without
is_tight-requires-clause-without c =
    let i = c.loop-place.place in
    greatest_at (lots_in c.args.payments.now.book.now.rules) (book_of c.args.payments.now.book.now) c.args.listed.now.groups.now c.args.listed.now.won.now i ((i + 1) - 1)
    c.group-group.result.now (slice_index_or c.args.listed.now.won.now i c.index-listed-place.result) c.requires.without
    (omega (arith, c.loop-place-test.true, c.count-count.ensures.count)) (omega arith) c.group-group.ensures (ap (slice_index_or c.args.listed.now.won.now i) c.index-listed-place.is)

pub returns-then-not-is_tight : goal.returns-then-not-is_tight
returns-then-not-is_tight c =
    let i = c.loop-place.place in
    let within : i < length c.args.listed.now.groups.now = omega (arith, c.loop-place-test.true, c.count-count.ensures.count) in
    let many = as_many_won (lots_in c.args.payments.now.book.now.rules) (book_of c.args.payments.now.book.now) c.args.listed.now.groups.now c.args.listed.now.won.now c.requires.without in
    group_fails (is_tight (lots_in c.args.payments.now.book.now.rules) (book_of c.args.payments.now.book.now) c.args.payments.now.first.now c.args.payments.now.parts (price_in c.args.payments.now.prices.now))
    c.args.listed.now.groups.now c.args.listed.now.won.now c.args.weights.now i ((i + 1) - 1) c.group-group.result.now (slice_index_or c.args.listed.now.won.now i c.index-listed-place.result) c.is_tight.result _
    within (omega (arith, within, many)) (omega (arith, within, c.requires.weights)) (omega arith) c.group-group.ensures (ap (slice_index_or c.args.listed.now.won.now i) c.index-listed-place.is)
    (tight_is (lots_in c.args.payments.now.book.now.rules) (book_of c.args.payments.now.book.now) c.args.payments.now.first.now c.args.payments.now.parts (price_in c.args.payments.now.prices.now)
    (slice_index_or c.args.weights.now i 0) c.group-group.result.now (slice_index_or c.args.listed.now.won.now i c.index-listed-place.result) c.is_tight.result c.is_tight.ensures)
    c.loop-place.invariant c.if-not-is_tight.true

pub loop-place-preserved : goal.loop-place-preserved
loop-place-preserved c =
    let i = c.loop-place.place in
    let within : i < length c.args.listed.now.groups.now = omega (arith, c.loop-place-test.true, c.count-count.ensures.count) in
    let many = as_many_won (lots_in c.args.payments.now.book.now.rules) (book_of c.args.payments.now.book.now) c.args.listed.now.groups.now c.args.listed.now.won.now c.requires.without in
    group_passes (is_tight (lots_in c.args.payments.now.book.now.rules) (book_of c.args.payments.now.book.now) c.args.payments.now.first.now c.args.payments.now.parts (price_in c.args.payments.now.prices.now))
    c.args.listed.now.groups.now c.args.listed.now.won.now c.args.weights.now i ((i + 1) - 1) c.group-group.result.now (slice_index_or c.args.listed.now.won.now i c.index-listed-place.result) c.is_tight.result _
    within (omega (arith, within, many)) (omega (arith, within, c.requires.weights)) (omega arith) c.group-group.ensures (ap (slice_index_or c.args.listed.now.won.now i) c.index-listed-place.is)
    (tight_is (lots_in c.args.payments.now.book.now.rules) (book_of c.args.payments.now.book.now) c.args.payments.now.first.now c.args.payments.now.parts (price_in c.args.payments.now.prices.now)
    (slice_index_or c.args.weights.now i 0) c.group-group.result.now (slice_index_or c.args.listed.now.won.now i c.index-listed-place.result) c.is_tight.result c.is_tight.ensures)
    c.loop-place.invariant c.if-not-is_tight.false
