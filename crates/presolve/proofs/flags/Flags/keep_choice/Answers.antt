use Rattle.std.proofs.Common.{◌≡◌, ◌∙◌, ◌-◌, ◌++◌, [], inl, inr, length, List, get_or, sym, ap, subst, arith}
use Rattle.std.proofs.lemmas.List.{get_or_default, length-map, map-append}
use Rattle.std.proofs.lemmas.List.Elements.{All-push}
use Rattle.auction_terms.specs.Allocations.{form_of}
use Rattle.auction_terms.specs.Bids.{IsKeptBid}
use Rattle.auction_terms.specs.Groups.{has}
use Rattle.auction_terms.specs.Keeping.{Offer}
use Rattle.auction_terms.specs.Offers.{offer_of, offers}
use Rattle.auction_terms.specs.Terms.{lots_in}
use Rattle.auction_terms.specs.declared.bids.Bid.{Bid}
use Rattle.auction_terms.specs.declared.bids.KeptBid.{KeptBid}
use Rattle.bid_desk.specs.Closing.{book_of}
use Rattle.bid_forms.specs.Offers.{IsBidWithinLimits}
use Rattle.presolve.proofs.ChoiceFacts.{bidder_within, dropped, left_out, no_bid, no_bid_of_none, not_there, one_of, stays}
use Rattle.presolve.proofs.KeepFacts.{its_flag, its_flags}
use Rattle.presolve.proofs.flags.Flags.keep_choice.Goals.{then-bid-eq0-via-then-bid-eq0, then-bid-eq0-via-else-bid-eq0+then-from-bids}
use Rattle.presolve.proofs.flags.Flags.keep_choice.Goals as goal

pub returns-then-has-clause-added : goal.returns-then-has-clause-added
returns-then-has-clause-added c =
    left_out (lots_in c.args.book.now.rules) (book_of c.args.book.now) (has c.args.group.now) c.args.choice (offers c.args.kept.now.items)
    (sym c.has.ensures.member ∙ c.if-has.true)

pub returns-in_default-clause-added : goal.returns-in_default-clause-added
returns-in_default-clause-added c =
    let book = book_of c.args.book.now in
    let choice = c.args.choice in
    not_there (lots_in c.args.book.now.rules) book (has c.args.group.now) choice (offers c.args.kept.now.items)
    (no_bid_of_none (form_of book choice.bidder) choice.bid c.in_default.ensures.bids)

pub returns-then-bid-eq0-clause-added : goal.returns-then-bid-eq0-clause-added
returns-then-bid-eq0-clause-added c =
    let book = book_of c.args.book.now in
    let choice = c.args.choice in
    let form = form_of book choice.bidder in
    let bids : c.bids-bids.result.now ≡ form = c.bids-bids.ensures.bids ∙ c.in-Some.ensures.bids in
    not_there (lots_in c.args.book.now.rules) book (has c.args.group.now) choice (offers c.args.kept.now.items) (no_bid form choice.bid
    (elim c.then-bid-eq0.branch [
      | then-bid-eq0-via-then-bid-eq0 w ↦ inl w.if-bid-eq0.true
      | then-bid-eq0-via-else-bid-eq0+then-from-bids w ↦ inr (omega (arith, ap length bids, w.if-from-bids.true, w.from.ensures))
    ]))

pub index-requires : goal.index-requires
index-requires c =
    let flags = its_flags (lots_in c.args.book.now.rules) (book_of c.args.book.now) c.self.inside.forms.items c.args.choice
    c.index-flags.result.now c.bids-bids.result.now c.from-2.result c.from-place.result
    (c.self.view_is ∙ c.requires.flags) (c.bids-bids.ensures.bids ∙ c.in-Some.ensures.bids) (omega arith) (omega arith) c.from-2.ensures
    c.from-place.ensures c.index-flags.ensures in
    omega (arith, c.index-flags.result.now.ok.0, ap length flags ∙ length-map c.bids-bids.result.now _)

pub returns-in_ok-push-clause-added : goal.returns-in_ok-push-clause-added
returns-in_ok-push-clause-added c =
    let lots = lots_in c.args.book.now.rules in
    let book = book_of c.args.book.now in
    let group = has c.args.group.now in
    let choice = c.args.choice in
    let x = c.index-bids-place.result in
    let (at, is) = its_flag lots book c.self.inside.forms.items choice c.index-flags.result.now c.bids-bids.result.now c.from-2.result c.from-place.result
    (c.self.view_is ∙ c.requires.flags) (c.bids-bids.ensures.bids ∙ c.in-Some.ensures.bids) (omega arith) (omega arith) c.from-2.ensures
    c.from-place.ensures c.index-flags.ensures x c.index.result.now c.index-bids-place.is c.index.ensures in
    let stands = stays lots book group choice x (sym c.has.ensures.member ∙ c.if-has.false) at (is ∙ c.if-index.true) in
    ap (λ (ks : List KeptBid). offers ks) c.in_ok-push.ensures.items ∙ map-append offer_of c.args.kept.now.items _
    ∙ ap (λ (os : List Offer). offers c.args.kept.now.items ++ os) (sym (one_of lots book group choice x at stands))

pub returns-in_ok-push-clause-each : goal.returns-in_ok-push-clause-each
returns-in_ok-push-clause-each c =
    let x = c.index-bids-place.result in
    let place = c.from-place.result - 1 in
    let its : c.bids-bids.result.now ≡ c.in-Some.form.now.bids = c.bids-bids.ensures.bids in
    let bids : c.bids-bids.result.now ≡ form_of (book_of c.args.book.now) c.args.choice.bidder = its ∙ c.in-Some.ensures.bids in
    let long = ap length bids in
    let same = ap length its in
    let form = c.bids-bids.ensures.form in
    let limits : IsBidWithinLimits x = subst IsBidWithinLimits (ap (λ (xs : List Bid). get_or xs place x) (sym its) ∙ sym
    c.index-bids-place.is) (form.each place x (omega (arith, c.if-from-bids.false))) in
    let bidder = bidder_within (book_of c.args.book.now) c.args.choice.bidder (omega arith) in
    rw c.in_ok-push.ensures.items (All-push IsKeptBid c.args.kept.now.items _ c.requires.each record {
      some_bidder = bidder.0;
      bidders = omega (arith, bidder.1, c.within_limits.ensures.book.bidders);
      some_bid = omega arith;
      bids = omega (arith, form.few);
      quantities = limits.quantities;
      some_amount = limits.some_amount;
      amounts = limits.amount;
    })

pub returns-else-index-clause-added : goal.returns-else-index-clause-added
returns-else-index-clause-added c =
    let bids = c.bids-bids.result.now in
    let none : Bid = record { «package» = []; amount = 0 } in
    let x = get_or bids (c.from-place.result - 1) none in
    let (at, is) = its_flag (lots_in c.args.book.now.rules) (book_of c.args.book.now) c.self.inside.forms.items c.args.choice
    c.index-flags.result.now bids c.from-2.result c.from-place.result
    (c.self.view_is ∙ c.requires.flags) (c.bids-bids.ensures.bids ∙ c.in-Some.ensures.bids) (omega arith) (omega arith) c.from-2.ensures
    c.from-place.ensures c.index-flags.ensures x c.index.result.now
    (get_or_default bids (c.from-place.result - 1) none x (omega arith)) c.index.ensures in
    dropped (lots_in c.args.book.now.rules) (book_of c.args.book.now) (has c.args.group.now) c.args.choice (offers c.args.kept.now.items) x
    at (is ∙ c.if-index.false)
