use Rattle.std.proofs.Common.{◌≡◌, ◌∙◌, ◌++◌, ◌∷◌, Some, List, [], length, sym, ap, arith, rules}
use Rattle.std.proofs.lemmas.List.{length-map}
use Rattle.std.proofs.lemmas.Result.{on_ok_weaker}
use Rattle.auction_terms.specs.declared.rules.Category.{Category}
use Rattle.auction_terms.specs.declared.bids.Choice.{Choice}
use Rattle.auction_terms.specs.Allocations.{bid_of, loads}
use Rattle.auction_terms.specs.Terms.{lots_in}
use Rattle.auction_terms.proofs.AllocationFacts.{loads_length}
use Rattle.auction_terms.proofs.LimitFacts.{sized}
use Rattle.bid_desk.specs.Closing.{book_of}
use Rattle.outcome.proofs.PutFacts.{options_added}
use Rattle.outcome.proofs.QuantityFacts.{left-length}
use Rattle.outcome.proofs.following.add_options.Goals as goal

pub without-others-requires : goal.without-others-requires
without-others-requires c =
    let own = c.in-Some.ensures.is_bid.sized in
    let of_choices = loads_length (lots_in c.args.book.now.rules) (book_of c.args.book.now) c.choices.result.now in
    omega (arith, ap length c.taken-taken.ensures.loads)

pub add_replaced-requires-clause-others : goal.add_replaced-requires-clause-others
add_replaced-requires-clause-others c =
    let of_choices = loads_length (lots_in c.args.book.now.rules) (book_of c.args.book.now) c.choices.result.now in
    let same = length-map c.args.book.now.rules.categories (λ (category : Category). category.supply) in
    let rest = left-length c.taken-taken.result c.in-Some.winner.won.now.package in
    omega (arith, ap length c.taken-taken.ensures.loads, ap length c.without-others.ensures)

pub returns : goal.returns
returns c =
    let lots = lots_in c.args.book.now.rules in
    let book = book_of c.args.book.now in
    let w = c.in-Some.winner in
    let wins : bid_of book c.args.choice ≡ Some w.won.now = sym c.in-Some.ensures.won in
    let pushed : c.push.new.self.items ≡ c.args.found.now.items ++ c.in_ok-with_bid.field-0 ∷ [] = search rules in
    on_ok_weaker c.add_replaced.result
    (λ h. options_added lots book (sized lots book c.taken-taken.ensures.book) c.args.award.now c.args.choice c.args.place c.args.most c.requires.at
    w.won.now wins c.requires.feasible.fit w.choice w.bids.now c.taken-taken.result c.without-others.result c.in_ok-with_bid.field-0
    c.args.found.now.items c.push.new.self.items c.add_replaced.new.found.items c.in-Some.ensures.choice c.in-Some.ensures.bids
    (c.taken-taken.ensures.loads ∙ ap (λ (a : List Choice). loads lots book a) c.choices.ensures.choices) c.without-others.ensures c.in_ok-with_bid.ensures pushed h)
    c.add_replaced.ensures
