use Rattle.std.proofs.Common.{◌∙◌, ◌++◌, List, ap, arith, take}
use Rattle.std.specs.Prelude.{flat_map}
use Rattle.auction_terms.specs.declared.bids.Choice.{Choice}
use Rattle.auction_terms.specs.Terms.{lots_in}
use Rattle.bid_desk.specs.Closing.{book_of}
use Rattle.outcome.specs.Following.{following}
use Rattle.outcome.proofs.PutFacts.{cut_deeper}
use Rattle.outcome.proofs.following.with_following.Goals as goal

pub returns : goal.returns
returns c =
    let f = following (lots_in c.args.book.now.rules) (book_of c.args.book.now) in
    c.in_ok-add_more.ensures ∙ ap (λ (more : List (List Choice)). take c.args.most (c.args.listed.items ++ more)) c.in_ok-more.ensures
    ∙ ap (λ (listed : List (List Choice)). take c.args.most (c.args.listed.items ++ take c.args.most (flat_map f listed))) c.deref.ensures.value
    ∙ cut_deeper c.args.most c.args.most c.args.listed.items (flat_map f c.args.listed.items) (omega arith)
