use Rattle.std.proofs.Common.{◌≡◌, ◌∙◌, length, subst, sym, ap, arith}
use Rattle.std.specs.Prelude.{All}
use Rattle.std.proofs.lemmas.Result.{IfOk-weaker}
use Rattle.auction_terms.specs.Limits.{AreOffers}
use Rattle.auction_terms.specs.Offers.{offers}
use Rattle.auction_terms.specs.Terms.{Terms, lots_in}
use Rattle.auction_terms.specs.declared.bids.KeptBid.{KeptBid}
use Rattle.bid_desk.specs.Closing.{book_of}
use Rattle.group_compiler.proofs.CompileFacts.{offers_are_sized}
use Rattle.presolve.proofs.KeepFacts.{form_offers}
use Rattle.group_compiler.proofs.PageLineFacts.{count_lots, form_page, length_rows}
use Rattle.group_compiler.proofs.page.Page.of_form.Goals as goal

pub build_bids-requires : goal.build_bids-requires
build_bids-requires c =
    let rules = c.args.book.now.rules in
    let book = book_of c.args.book.now in
    let kept = c.in_ok-kept.kept in
    let are = subst (AreOffers (lots_in rules)) (sym c.in_ok-kept.ensures)
    (form_offers (lots_in rules) book c.args.bidder c.requires.some c.requires.bidders c.rules-rules.ensures.book) in
    record {
      sized = subst (λ (t : Terms). All (λ (k : KeptBid). length k.offer.now.package ≡ length t.categories) kept)
          (sym c.rules-rules.ensures.rules) (offers_are_sized rules kept are);
    }

pub overflow_sub-own : goal.overflow_sub-own
overflow_sub-own c =
    let rules = c.rules-rules.result.now in
    let rows = length_rows (lots_in rules) (offers c.in_ok-kept.kept) c.in_ok-parts.parts.rows.items c.in_ok-parts.ensures.rows in
    let all = ap (λ rs. length rs) c.as_slice-rows.ensures.value in
    let lots = count_lots rules c.categories.result.now c.pools.result.now c.categories.ensures.value c.pools.ensures.value in
    omega arith

pub returns : goal.returns
returns c =
    let rules = c.rules-rules.result.now in
    let page = form_page (lots_in rules) (lots_in c.args.book.now.rules) (offers c.in_ok-kept.kept) _ c.in_ok-parts.parts.rows.items
    c.as_slice-rows.result.now c.in_ok-parts.parts.columns _
    (ap lots_in c.rules-rules.ensures.rules) c.in_ok-kept.ensures c.as_slice-rows.ensures.value c.in_ok-parts.ensures.rows c.in_ok-parts.ensures.columns
    (count_lots rules c.categories.result.now c.pools.result.now c.categories.ensures.value c.pools.ensures.value) in
    IfOk-weaker c.new.result _ _ (λ p e. e ∙ page) c.new.ensures
