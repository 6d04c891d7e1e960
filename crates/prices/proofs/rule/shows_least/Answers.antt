use Rattle.std.proofs.Common.{◌∙◌, Bool, ap, ap₂}
use Rattle.std.specs.Prelude.{nat_le, ◌&&◌}
use Rattle.std.specs.List.{list_all}
use Rattle.auction_terms.specs.declared.bids.Choice.{Choice}
use Rattle.auction_terms.specs.Terms.{lots_in}
use Rattle.bid_desk.specs.Closing.{book_of}
use Rattle.outcome.specs.Pricing.{price_in}
use Rattle.prices.specs.inside.Weighing.{even_by}
use Rattle.prices.proofs.FewFacts.{as_many_won}
use Rattle.prices.proofs.ShownFacts.{even_is}
use Rattle.prices.proofs.rule.shows_least.Goals as goal

pub returns : goal.returns
returns c =
    let book = c.args.payments.now.book.now in
    let groups = c.args.listed.now.groups.now in
    let won = c.args.listed.now.won.now in
    let w = c.args.weights.now in
    let many = as_many_won (lots_in book.rules) (book_of book) groups won c.requires.without in
    let each = c.are_even-even.ensures
    ∙ ap (list_all (λ (x : Choice). even_by groups w.groups.now (price_in w.own.now) w.scale x.bidder)) c.choices.ensures.choices
    ∙ even_is groups won w.groups.now many w.own.now c.args.payments.now.first.now w.scale in
    c.are_shown.ensures ∙ ap₂ (λ (a b : Bool). nat_le 1 w.scale && a && b) each c.are_tight-tight.ensures
