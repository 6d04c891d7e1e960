use Rattle.std.proofs.Common.{◌<◌, List, ap, length, ◌∙◌, arith}
use Rattle.auction_terms.specs.Groups.{has}
use Rattle.auction_terms.specs.Offers.{offers}
use Rattle.auction_terms.specs.declared.bids.KeptBid.{KeptBid}
use Rattle.auction_terms.specs.Terms.{lots_in}
use Rattle.auction_terms.proofs.LimitFacts.{kept_are_offers}
use Rattle.bid_desk.specs.Closing.{book_of}
use Rattle.presolve.proofs.KeepFacts.{flags_at, kept_more, all_kept, are_kept, length_flags}
use Rattle.presolve.proofs.flags.Flags.kept.Goals as goal

pub keep_bidder-requires-clause-flags : goal.keep_bidder-requires-clause-flags
keep_bidder-requires-clause-flags c =
    let forms = c.self.inside.forms.items in
    let within : c.loop-place.place < length forms = rw c.deref-flags-items.ensures.value at c.loop-place-test.true in
    c.deref.ensures.value ∙ (flags_at (lots_in c.args.book.now.rules) (book_of c.args.book.now) forms c.loop-place.place c.flags-item.result
    (c.self.view_is ∙ c.requires) within (rw c.deref-flags-items.ensures.value at c.flags-item.is)).1

pub loop-place-preserved : goal.loop-place-preserved
loop-place-preserved c =
    let lots = lots_in c.args.book.now.rules in
    let book = book_of c.args.book.now in
    let long = length_flags lots book c.self.inside.forms.items (c.self.view_is ∙ c.requires) in
    let within : c.loop-place.place < length book = (let l = rw c.deref-flags-items.ensures.value at c.loop-place-test.true in omega arith) in
    record {
      so_far = kept_more lots book (has c.args.group.now) c.loop-place.place
          (offers c.loop-place.kept.items) (offers c.keep_bidder.new.kept.items) within
          c.loop-place.invariant.so_far c.in_ok-keep_bidder.ensures.added;
      each = c.in_ok-keep_bidder.ensures.each;
    }

pub new-requires : goal.new-requires
new-requires c =
    let lots = lots_in c.args.book.now.rules in
    let book = book_of c.args.book.now in
    let group = has c.args.group.now in
    let long = length_flags lots book c.self.inside.forms.items (c.self.view_is ∙ c.requires) in
    let end = rw c.deref-flags-items.ensures.value at c.loop-place-test.false in
    are_kept lots _ c.loop-place.kept.items (kept_are_offers lots book group c.within_limits.ensures.book) c.loop-place.invariant.each
    (all_kept lots book group c.loop-place.place (offers c.loop-place.kept.items) (omega arith) c.loop-place.invariant.so_far)

pub returns : goal.returns
returns c =
    let lots = lots_in c.args.book.now.rules in
    let book = book_of c.args.book.now in
    let long = length_flags lots book c.self.inside.forms.items (c.self.view_is ∙ c.requires) in
    let end = rw c.deref-flags-items.ensures.value at c.loop-place-test.false in
    ap (λ (ks : List KeptBid). offers ks) c.new.ensures
    ∙ all_kept lots book (has c.args.group.now) c.loop-place.place (offers c.loop-place.kept.items) (omega arith) c.loop-place.invariant.so_far
