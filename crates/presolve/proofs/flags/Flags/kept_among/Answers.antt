use Rattle.std.proofs.Common.{◌≡◌, ◌∙◌, ◌≤◌, ◌<◌, ◌++◌, ap, arith, length, rules, sym, List, Some}
use Rattle.std.specs.Prelude.{filter, slice_get}
use Rattle.std.proofs.lemmas.Fn.{always_returns_same}
use Rattle.std.proofs.lemmas.Option.{slice_get-get_or}
use Rattle.auction_terms.specs.Groups.{has}
use Rattle.auction_terms.specs.Keeping.{Offer, kept_of}
use Rattle.auction_terms.specs.Offers.{offers}
use Rattle.auction_terms.specs.Terms.{lots_in}
use Rattle.auction_terms.specs.declared.bids.KeptBid.{KeptBid}
use Rattle.auction_terms.specs.declared.bids.Choice.{Choice}
use Rattle.auction_terms.proofs.LimitFacts.{kept_are_offers, offers_left}
use Rattle.bid_desk.specs.Closing.{book_of}
use Rattle.presolve.specs.Flags.{has_choice}
use Rattle.presolve.specs.inside.Flags.{is_offer_of}
use Rattle.presolve.proofs.ChoiceFacts.{IsInOrder, at_end, at_start, after_all, not_repeated, one_again_at, one_more, repeated}
use Rattle.presolve.proofs.KeepFacts.{are_kept}
use Rattle.presolve.proofs.SizeFacts.{all_pairs, up_to, up_to_trans}
use Rattle.presolve.proofs.flags.Flags.kept_among.Goals.{then-not-is_repeated+in_ok-keep_choice, else-not-is_repeated}
use Rattle.presolve.proofs.flags.Flags.kept_among.Goals as goal

pub loop-place-init : goal.loop-place-init
loop-place-init c =
    let lots = lots_in c.args.book.now.rules in
    let book = book_of c.args.book.now in
    let group = has c.args.group.now in
    let sorted = c.sort_unstable_by_key.new.self.items in
    record {
      so_far = ap (λ (ks : List KeptBid). offers ks) c.new-kept.ensures.items ∙ sym (at_start lots book group c.within_limits.ensures.book sorted);
      each = rw c.new-kept.ensures.items (λ k d l. absurd (omega arith));
    }

pub loop-place-preserved : goal.loop-place-preserved
loop-place-preserved c =
    let lots = lots_in c.args.book.now.rules in
    let book = book_of c.args.book.now in
    let group = has c.args.group.now in
    let sorted = c.sort_unstable_by_key.new.self.items in
    let place = c.loop-place.place in
    let less : place < length sorted = (let l = c.loop-place-test.true in omega (arith, c.sort_unstable_by_key.new.self.ok.0)) in
    let shown : c.deref.result.now ≡ sorted = c.deref.ensures.value in
    let keys = c.sort_unstable_by_key.ensures.sorted (λ (d : Choice). (d.bidder, d.bid)) (always_returns_same _ _ _ (λ a r f k. search rules)) in
    let rising = all_pairs IsInOrder (λ d e f h k. up_to_trans d.bidder d.bid e.bidder e.bid f.bidder f.bid h k) sorted
    (λ k d l. up_to _ _ _ _ (keys k d (omega arith) l)) in
    elim c.if-not-is_repeated.branch [
      | then-not-is_repeated+in_ok-keep_choice w ↦
          (let choice = w.index.result.now in
          let at : slice_get sorted place ≡ Some choice = slice_get-get_or sorted place choice less ∙ ap (λ (d : Choice). Some d) (sym w.index.ensures) in
          let earlier = after_all sorted place choice rising less at
          (not_repeated sorted c.deref.result.now place c.is_repeated.result shown c.is_repeated.ensures w.if-not-is_repeated.true) in
          rw w.kept-is (record {
            so_far = w.in_ok-keep_choice.ensures.added ∙ ap (λ (os : List Offer). os ++ filter (is_offer_of choice)
                (kept_of lots book group)) c.loop-place.invariant.so_far
                ∙ sym (one_more lots book group c.within_limits.ensures.book sorted choice place less at earlier);
            each = w.in_ok-keep_choice.ensures.each;
          }))
      | else-not-is_repeated w ↦
          (let again = repeated sorted c.deref.result.now place c.is_repeated.result shown c.is_repeated.ensures w.if-not-is_repeated.false in
          rw w.kept-is (record {
            so_far = c.loop-place.invariant.so_far ∙ sym (one_again_at lots book group c.within_limits.ensures.book sorted place less again);
            each = c.loop-place.invariant.each;
          }))
    ]

pub new-requires : goal.new-requires
new-requires c =
    let lots = lots_in c.args.book.now.rules in
    let book = book_of c.args.book.now in
    let group = has c.args.group.now in
    let sorted = c.sort_unstable_by_key.new.self.items in
    let over : length sorted ≤ c.loop-place.place = (let l = c.loop-place-test.false in omega (arith, c.sort_unstable_by_key.new.self.ok.0)) in
    are_kept lots _ c.loop-place.kept.items (offers_left lots (λ o. has_choice c.args.choices.items o.bidder o.number)
    (kept_of lots book group) (kept_are_offers lots book group c.within_limits.ensures.book)) c.loop-place.invariant.each
    (c.loop-place.invariant.so_far ∙ at_end lots book group c.within_limits.ensures.book sorted c.loop-place.place c.args.choices.items over
    c.sort_unstable_by_key.ensures.permutation)

pub returns : goal.returns
returns c =
    let lots = lots_in c.args.book.now.rules in
    let book = book_of c.args.book.now in
    let group = has c.args.group.now in
    let sorted = c.sort_unstable_by_key.new.self.items in
    let over : length sorted ≤ c.loop-place.place = (let l = c.loop-place-test.false in omega (arith, c.sort_unstable_by_key.new.self.ok.0)) in
    ap (λ (ks : List KeptBid). offers ks) c.new.ensures ∙ c.loop-place.invariant.so_far
    ∙ at_end lots book group c.within_limits.ensures.book sorted c.loop-place.place c.args.choices.items over c.sort_unstable_by_key.ensures.permutation
