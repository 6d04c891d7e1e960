use Rattle.std.proofs.Common.{◌∙◌, ap, sym, Ok, Option}
use Rattle.std.specs.Option.{option_map_or}
use Rattle.auction_terms.specs.declared.bids.Choice.{Choice}
use Rattle.auction_terms.specs.Terms.{lots_in}
use Rattle.bid_desk.specs.Closing.{book_of}
use Rattle.prices.specs.Alone.{winner_alone}
use Rattle.prices.specs.Prices.{reserves_in}
use Rattle.prices.proofs.AloneFacts.{choice_later, choice_none, choice_now}
use Rattle.prices.proofs.alone.bidder_alone.Goals as goal

pub returns-then-choice-bidder : goal.returns-then-choice-bidder
returns-then-choice-bidder c =
    let d : Choice = record { bidder = 0; bid = 0 } in
    let found = choice_now c.args.first.now c.choices-choice-items.result.now c.args.bidder c.loop-choice.choice-index d
    c.choices-choice-items.ensures.choices c.loop-choice-test.true c.loop-choice.invariant c.if-choice-bidder.true in
    record {
      exact = c.winner_alone.ensures.exact ∙ sym (ap (λ (o : Option Choice). option_map_or (winner_alone (reserves_in c.args.book.now.rules)
          (lots_in c.args.book.now.rules) (book_of c.args.book.now) c.args.first.now c.args.listed.now.groups.now c.args.listed.now.won.now) o (Ok 0)) found);
    }

pub loop-choice-preserved : goal.loop-choice-preserved
loop-choice-preserved c =
    choice_later c.args.first.now c.choices-choice-items.result.now c.args.bidder c.loop-choice.choice-index (record { bidder = 0; bid = 0 })
    c.choices-choice-items.ensures.choices c.loop-choice-test.true c.loop-choice.invariant c.if-choice-bidder.false

pub returns : goal.returns
returns c =
    let none = choice_none c.args.first.now c.choices-choice-items.result.now c.args.bidder c.loop-choice.choice-index
    c.choices-choice-items.ensures.choices c.loop-choice-test.false c.loop-choice.invariant in
    record {
      exact = sym (ap (λ (o : Option Choice). option_map_or (winner_alone (reserves_in c.args.book.now.rules)
          (lots_in c.args.book.now.rules) (book_of c.args.book.now) c.args.first.now c.args.listed.now.groups.now c.args.listed.now.won.now) o (Ok 0)) none);
    }
