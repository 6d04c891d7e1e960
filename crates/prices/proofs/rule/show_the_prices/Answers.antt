use Rattle.std.proofs.Common.{Err, List, Ok, Result}
use Rattle.std.specs.Prelude.{All, OnOk, ℕ}
use Rattle.std.proofs.lemmas.List.Elements.{All-from_recursion}
use Rattle.auction_terms.specs.Groups.{has}
use Rattle.auction_terms.specs.Terms.{lots_in}
use Rattle.bid_desk.specs.Closing.{book_of}
use Rattle.outcome.specs.Pricing.{price_in}
use Rattle.program_rows.specs.Faithful.{IsGreatest}
use Rattle.prices.specs.Prices.{reserves_in}
use Rattle.prices.specs.Rule.{Rule}
use Rattle.prices.specs.Weights.{Weighted, listed_weights, weighted}
use Rattle.prices.proofs.FewFacts.{all_greatest, alone_few, prices_few, reserves_few}
use Rattle.prices.proofs.RuleFacts.{shown_are_the_prices}
use Rattle.prices.proofs.rule.show_the_prices.Goals as goal

pub shows_least-least-requires-clause-reserves : goal.shows_least-least-requires-clause-reserves
shows_least-least-requires-clause-reserves c =
    let payments = c.args.payments.now in
    reserves_few (lots_in payments.book.now.rules) (book_of payments.book.now) payments.first.now payments.parts (price_in payments.prices.now)
    c.within_limits.ensures.book c.requires.prices (reserves_in payments.book.now.rules) c.requires.suffice

pub shows_nearest-nearest-requires-clause-alone : goal.shows_nearest-nearest-requires-clause-alone
shows_nearest-nearest-requires-clause-alone c =
    let payments = c.args.payments.now in
    alone_few (lots_in payments.book.now.rules) (book_of payments.book.now) payments.first.now payments.parts (price_in payments.prices.now)
    c.within_limits.ensures.book c.requires.prices (reserves_in payments.book.now.rules) (price_in c.args.alone.now) c.requires.suffice
    c.requires.first.feasible c.requires.alone

pub shows_nearest-nearest-requires-clause-prices : goal.shows_nearest-nearest-requires-clause-prices
shows_nearest-nearest-requires-clause-prices c =
    let payments = c.args.payments.now in
    prices_few (lots_in payments.book.now.rules) (book_of payments.book.now) payments.first.now payments.parts (price_in payments.prices.now)
    c.within_limits.ensures.book c.requires.prices c.requires.parts

pub shows_nearest-nearest-requires-clause-reserves : goal.shows_nearest-nearest-requires-clause-reserves
shows_nearest-nearest-requires-clause-reserves c =
    let payments = c.args.payments.now in
    reserves_few (lots_in payments.book.now.rules) (book_of payments.book.now) payments.first.now payments.parts (price_in payments.prices.now)
    c.within_limits.ensures.book c.requires.prices (reserves_in payments.book.now.rules) c.requires.suffice

on_ok : {T E P Q : Type 0} (r : Result T E) → (P → Q) → OnOk r P → OnOk r Q
on_ok (Ok x) f p = f p
on_ok (Err e) f p = tt

pub returns-clause-prices : goal.returns-clause-prices
returns-clause-prices c =
    let payments = c.args.payments.now in
    let reserves = reserves_in payments.book.now.rules in
    let lots = lots_in payments.book.now.rules in
    let book = book_of payments.book.now in
    let groups = c.args.listed.now.groups.now in
    let won = c.args.listed.now.won.now in
    let given = c.args.rule.now in
    let rule : Rule = record {
      least = listed_weights groups won given.least.scale given.least.groups.now given.least.own.now;
      nearest = listed_weights groups won given.nearest.scale given.nearest.groups.now given.nearest.own.now;
      push = given.push;
    } in
    let greatest : (weights : List ℕ) → All (λ w. IsGreatest lots book (has w.group) w.without) (weighted groups won weights) = λ weights.
    All-from_recursion (λ (w : Weighted). IsGreatest lots book (has w.group) w.without) (weighted groups won weights)
    (all_greatest lots book groups won weights c.requires.without) in
    let shown = rw (c.shows_least-least.ensures, c.shows_nearest-nearest.ensures) at c.both_shown.ensures.shown in
    on_ok c.both_shown.result (shown_are_the_prices reserves lots book payments.first.now (price_in c.args.alone.now) payments.parts (price_in payments.prices.now) rule
    c.requires.suffice (greatest given.least.groups.now) (greatest given.nearest.groups.now)) shown
