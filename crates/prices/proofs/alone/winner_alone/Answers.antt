use Rattle.std.proofs.Common.{◌<◌, ◌+◌, ◌-◌, ◌∙◌, Option, List, Ok, ap, arith, length, slice_index_or, sym}
use Rattle.std.specs.Option.{ok_or, option_map}
use Rattle.auction_terms.specs.declared.bids.Choice.{Choice}
use Rattle.auction_terms.specs.Terms.{lots_in}
use Rattle.bid_desk.specs.Closing.{book_of}
use Rattle.prices.specs.declared.alone.AloneFault.TheVariants.{NotListed}
use Rattle.prices.specs.Alone.{cost_alone}
use Rattle.prices.specs.Prices.{reserves_in}
use Rattle.prices.proofs.AloneFacts.{alone_ends, alone_found, alone_goes_on}
use Rattle.prices.proofs.FewFacts.{as_many_won, greatest_at}
use Rattle.prices.proofs.alone.winner_alone.Goals as goal

pub bounds-listed-place : goal.bounds-listed-place
bounds-listed-place c = omega (
  arith,
  c.loop-place-test.true,
  c.count-place-end.ensures.count,
  as_many_won (lots_in c.args.book.now.rules) (book_of c.args.book.now) c.args.listed.now.groups.now c.args.listed.now.won.now
      c.requires.without,
)

pub alone_by-requires-clause-without : goal.alone_by-requires-clause-without
alone_by-requires-clause-without c =
    let i = c.loop-place.place in
    let won = c.args.listed.now.won.now in
    greatest_at (lots_in c.args.book.now.rules) (book_of c.args.book.now) c.args.listed.now.groups.now won i ((i + 1) - 1)
    c.group-group.result.now (slice_index_or won i c.index-listed-place.result) c.requires.without
    (omega (arith, c.loop-place-test.true, c.count-place-end.ensures.count)) (omega arith) c.group-group.ensures
    (ap (slice_index_or won i) c.index-listed-place.is)

pub returns-then-is_alone : goal.returns-then-is_alone
returns-then-is_alone c =
    let i = c.loop-place.place in
    let groups = c.args.listed.now.groups.now in
    let won = c.args.listed.now.won.now in
    let within : i < length groups = omega (arith, c.loop-place-test.true, c.count-place-end.ensures.count) in
    let many = as_many_won (lots_in c.args.book.now.rules) (book_of c.args.book.now) groups won c.requires.without in
    let found = alone_found groups won c.args.choice.bidder i ((i + 1) - 1) c.group-group.result.now c.index-listed-place.result within
    (omega (arith, within, many)) (omega arith) c.group-group.ensures (sym c.is_alone.ensures ∙ c.if-is_alone.true) c.loop-place.invariant in
    record {
      exact = ap Ok c.alone_by.ensures ∙ sym (ap (λ (o : Option (List Choice)). ok_or (option_map (λ (w : List Choice).
          cost_alone (reserves_in c.args.book.now.rules) (lots_in c.args.book.now.rules) (book_of c.args.book.now) c.args.first.now w c.args.choice) o)
          (NotListed c.args.choice.bidder)) found);
    }

pub loop-place-preserved : goal.loop-place-preserved
loop-place-preserved c =
    let i = c.loop-place.place in
    let groups = c.args.listed.now.groups.now in
    let won = c.args.listed.now.won.now in
    let within : i < length groups = omega (arith, c.loop-place-test.true, c.count-place-end.ensures.count) in
    let many = as_many_won (lots_in c.args.book.now.rules) (book_of c.args.book.now) groups won c.requires.without in
    alone_goes_on groups won c.args.choice.bidder i ((i + 1) - 1) c.group-group.result.now within (omega (arith, within, many)) (omega arith)
    c.group-group.ensures (sym c.is_alone.ensures ∙ c.if-is_alone.false) c.loop-place.invariant

pub returns : goal.returns
returns c =
    let ends = alone_ends c.args.listed.now.groups.now c.args.listed.now.won.now c.args.choice.bidder c.loop-place.place
    (omega (arith, c.loop-place-test.false, c.count-place-end.ensures.count)) c.loop-place.invariant in
    record {
      exact = sym (ap (λ (o : Option (List Choice)). ok_or (option_map (λ (w : List Choice).
          cost_alone (reserves_in c.args.book.now.rules) (lots_in c.args.book.now.rules) (book_of c.args.book.now) c.args.first.now w c.args.choice) o)
          (NotListed c.args.choice.bidder)) ends);
    }
