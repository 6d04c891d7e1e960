use Rattle.std.proofs.Common.{◌≡◌, ◌++◌, List, sym, ap, ◌∙◌, append-nil, OnOk, refl, subst}
use Rattle.auction_terms.specs.Allocations.{form_of}
use Rattle.auction_terms.specs.Groups.{has}
use Rattle.auction_terms.specs.Keeping.{Offer}
use Rattle.auction_terms.specs.Offers.{offers}
use Rattle.auction_terms.specs.Terms.{lots_in}
use Rattle.bid_desk.specs.Closing.{book_of}
use Rattle.presolve.proofs.KeepFacts.{kept_outside, none_inside}
use Rattle.presolve.proofs.keeping.keep_bidder.Goals as goal

pub returns-then-has-clause-added : goal.returns-then-has-clause-added
returns-then-has-clause-added c =
    let book = book_of c.args.book.now in
    sym (ap (λ (os : List Offer). offers c.args.kept.now.items ++ os)
    (none_inside (lots_in c.args.book.now.rules) book (has c.args.group.now) c.args.bidder 1 (form_of book c.args.bidder)
    (sym c.has.ensures.member ∙ c.if-has.true)) ∙ append-nil (offers c.args.kept.now.items))

pub returns-clause-added : goal.returns-clause-added
returns-clause-added c =
    let book = book_of c.args.book.now in
    let lots = lots_in c.args.book.now.rules in
    let b = c.args.bidder in
    let form = form_of book b in
    let own = kept_outside lots book (has c.args.group.now) b 1 form form (sym c.has.ensures.member ∙ c.if-has.false) refl in
    subst (λ (os : List Offer). OnOk c.keep_form.result (offers c.keep_form.new.kept.items ≡ offers c.args.kept.now.items ++ os)) own c.keep_form.ensures.added
