use Rattle.std.proofs.Common.{◌≡◌, ◌++◌, List, ap₂, ◌∙◌, Bool, OnOk, subst}
use Rattle.auction_terms.specs.declared.bids.Bid.{Bid}
use Rattle.auction_terms.specs.Allocations.{form_of}
use Rattle.auction_terms.specs.Keeping.{Offer}
use Rattle.auction_terms.specs.Offers.{offers}
use Rattle.bid_desk.specs.Closing.{book_of}
use Rattle.auction_terms.specs.Terms.{lots_in}
use Rattle.presolve.specs.inside.Flags.{flagged_from}
use Rattle.presolve.proofs.KeepFacts.{by_flags}
use Rattle.presolve.proofs.keeping.keep_form.Goals as goal

pub returns-in-Some-clause-added : goal.returns-in-Some-clause-added
returns-in-Some-clause-added c =
    let b = c.args.bidder in
    let form = form_of (book_of c.args.book.now) b in
    let bids : c.bids.result.now ≡ form = c.bids.ensures.bids ∙ c.in-Some.ensures.bids in
    let own = ap₂ (λ (xs : List Bid) (flags : List Bool). flagged_from b 1 xs flags) bids c.requires.flags
    ∙ by_flags (lots_in c.args.book.now.rules) form b 1 form in
    subst (λ (os : List Offer). OnOk c.keep_flagged.result (offers c.keep_flagged.new.kept.items ≡ offers c.args.kept.now.items ++ os)) own
    c.keep_flagged.ensures.added
