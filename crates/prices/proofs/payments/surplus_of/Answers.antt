use Rattle.std.proofs.Common.{◌≡◌, ◌<◌, ◌∙◌, List, ap, length, slice_index_or, subst, sym}
use Rattle.auction_terms.specs.declared.bids.Choice.{Choice}
use Rattle.bid_desk.specs.Closing.{book_of}
use Rattle.outcome.specs.Pricing.{price_in}
use Rattle.prices.specs.Blocking.{gain}
use Rattle.prices.proofs.CodeFacts.{found_at}
use Rattle.prices.proofs.payments.surplus_of.Goals as goal

pub returns-then-choice-bidder-clause-surplus : goal.returns-then-choice-bidder-clause-surplus
returns-then-choice-bidder-clause-surplus c =
    let payments = c.args.payments.now in
    let i = c.loop-choice.choice-index in
    let d : Choice = record { bidder = 0; bid = 0 } in
    let same = c.choices-choice-items.ensures.choices in
    c.gain_of.ensures.gain
    ∙ ap (λ (xs : List Choice). gain (book_of payments.book.now) payments.parts (price_in payments.prices.now) (slice_index_or xs i d)) same
    ∙ sym (found_at (gain (book_of payments.book.now) payments.parts (price_in payments.prices.now)) c.args.bidder payments.first.now i d
    (subst (λ (xs : List Choice). i < length xs) same c.loop-choice-test.true)
    (subst (λ (xs : List Choice). (slice_index_or xs i d).bidder ≡ c.args.bidder) same c.if-choice-bidder.true)
    c.loop-choice.invariant.one)
    ∙ c.loop-choice.invariant.surplus
