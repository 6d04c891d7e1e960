use Rattle.std.proofs.Common.{◌≡◌, ◌-◌, ◌+◌, ◌++◌, ℕ, List, map, ap, ◌∙◌, arith}
use Rattle.auction_terms.specs.Allocations.{form_of}
use Rattle.auction_terms.specs.Domination.{is_kept}
use Rattle.auction_terms.specs.Offers.{offers}
use Rattle.auction_terms.specs.declared.bids.KeptBid.{KeptBid}
use Rattle.auction_terms.specs.Terms.{lots_in}
use Rattle.bid_desk.specs.Closing.{book_of}
use Rattle.presolve.specs.Flags.{kept_in_form}
use Rattle.presolve.proofs.KeepFacts.{are_kept, flags_at, form_offers, length_flags}
use Rattle.presolve.proofs.flags.Flags.kept_in_form.Goals as goal

pub index-flags-requires : goal.index-flags-requires
index-flags-requires c =
    let book = book_of c.args.book.now in
    let long = length_flags (lots_in c.args.book.now.rules) book c.self.inside.forms.items (c.self.view_is ∙ c.requires.flags) in
    omega (arith, c.requires.some, c.requires.bidders, c.self.inside.forms.ok.0)

pub keep_form-requires-clause-flags : goal.keep_form-requires-clause-flags
keep_form-requires-clause-flags c =
    let book = book_of c.args.book.now in
    let lots = lots_in c.args.book.now.rules in
    let forms = c.self.inside.forms.items in
    let b = c.args.bidder in
    let all = c.self.view_is ∙ c.requires.flags in
    let long = length_flags lots book forms all in
    let back : b - 1 + 1 ≡ b = omega (arith, c.requires.some) in
    c.deref.ensures.value ∙ (flags_at lots book forms (b - 1) c.index-flags.result.now all
    (omega (arith, c.requires.some, c.requires.bidders)) c.index-flags.ensures).1
    ∙ ap (λ (n : ℕ). map (is_kept lots (form_of book n)) (form_of book n)) back

pub new-requires : goal.new-requires
new-requires c =
    let book = book_of c.args.book.now in
    let lots = lots_in c.args.book.now.rules in
    let own = kept_in_form lots c.args.bidder (form_of book c.args.bidder) in
    are_kept lots own c.keep_form.new.kept.items (form_offers lots book c.args.bidder c.requires.some c.requires.bidders
    c.within_limits.ensures.book) c.in_ok-keep_form.ensures.each
    (c.in_ok-keep_form.ensures.added ∙ ap (λ (ks : List KeptBid). offers ks ++ own) c.new-own.ensures.items)

pub returns : goal.returns
returns c =
    let own = kept_in_form (lots_in c.args.book.now.rules) c.args.bidder (form_of (book_of c.args.book.now) c.args.bidder) in
    ap (λ (ks : List KeptBid). offers ks) c.new.ensures ∙ c.in_ok-keep_form.ensures.added ∙ ap (λ (ks : List KeptBid). offers ks ++ own) c.new-own.ensures.items
