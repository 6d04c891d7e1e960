use Rattle.std.proofs.Common.{◌∙◌, Bool, ap, ap₂}
use Rattle.std.specs.Prelude.{nat_le, ◌&&◌}
use Rattle.std.specs.List.{list_all}
use Rattle.auction_terms.specs.declared.bids.Choice.{Choice}
use Rattle.auction_terms.specs.Terms.{lots_in}
use Rattle.bid_desk.specs.Closing.{book_of}
use Rattle.outcome.specs.Pricing.{price_in}
use Rattle.prices.specs.inside.Weighing.{moved_by}
use Rattle.prices.proofs.FewFacts.{as_many_won}
use Rattle.prices.proofs.ShownFacts.{moved_is}
use Rattle.prices.proofs.rule.shows_nearest.Goals as goal

pub returns : goal.returns
returns c =
    let payments = c.args.payments.now in
    let groups = c.args.listed.now.groups.now in
    let won = c.args.listed.now.won.now in
    let w = c.args.rule.now.nearest in
    let many = as_many_won (lots_in payments.book.now.rules) (book_of payments.book.now) groups won c.requires.without in
    let each = c.are_moved-moved.ensures
    ∙ ap (list_all (λ (x : Choice). moved_by groups w.groups.now (price_in w.own.now) w.scale (price_in c.args.alone.now) payments.parts
    (price_in payments.prices.now) c.args.rule.now.push x.bidder)) c.choices.ensures.choices
    ∙ moved_is groups won w.groups.now many w.own.now payments.first.now w.scale (price_in c.args.alone.now) payments.parts
    (price_in payments.prices.now) c.args.rule.now.push in
    c.are_shown.ensures ∙ ap₂ (λ (a b : Bool). nat_le 1 w.scale && a && b) each c.are_tight-tight.ensures
