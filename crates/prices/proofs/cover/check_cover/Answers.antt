use Rattle.std.proofs.Common.{◌∙◌, rules}
use Rattle.std.proofs.lemmas.Int.{to_z-of_z}
use Rattle.std.proofs.lemmas.Result.{on_ok_weaker}
use mir.Syntax.{w128}
use mir.Val.{SFits, to_z, of_z}
use Rattle.auction_terms.specs.Terms.{lots_in}
use Rattle.bid_desk.specs.Closing.{book_of}
use Rattle.outcome.specs.Pricing.{price_in}
use Rattle.prices.specs.Prices.{reserves_in}
use Rattle.prices.proofs.RaisedFacts.{bound_suffices}
use Rattle.prices.proofs.cover.check_cover.Goals as goal

pub returns-in-Ok-clause-suffice : goal.returns-in-Ok-clause-suffice
returns-in-Ok-clause-suffice c =
    let payments = c.args.payments.now in
    let fits : SFits w128 c.raised_bound.result = search rules in
    on_ok_weaker c.check_certificate.result (λ sound.
    bound_suffices (reserves_in payments.book.now.rules) (lots_in payments.book.now.rules) (book_of payments.book.now) payments.first.now payments.parts
    (price_in payments.prices.now) c.in-Ok.program (to_z w128 (of_z w128 c.raised_bound.result)) c.within_limits.ensures.book c.requires.feasible
    c.requires.some c.requires.prices c.requires.reserves c.in-Ok.ensures.raised (to_z-of_z w128 c.raised_bound.result fits ∙ c.raised_bound.ensures.bound) sound)
    c.check_certificate.ensures.sound
