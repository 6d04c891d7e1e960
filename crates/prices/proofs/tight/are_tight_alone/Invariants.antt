use Rattle.std.proofs.Common.{◌≡◌, take, true}
use Rattle.std.specs.List.{list_all}
use Rattle.bid_desk.specs.Closing.{book_of}
use Rattle.outcome.specs.Pricing.{price_in}
use Rattle.prices.specs.Rule.{is_tight_alone}
use Rattle.prices.specs.Prices.{reserves_in}
use Rattle.prices.proofs.tight.are_tight_alone.Given as goal

abbrev pub invariant-loop-choice : goal.invariant-loop-choice
invariant-loop-choice l =
    list_all (is_tight_alone (reserves_in l.payments.book.now.rules) (book_of l.payments.book.now) l.payments.parts (price_in l.payments.prices.now) (price_in l.own)) (take l.choice-index l.choices) ≡ true
