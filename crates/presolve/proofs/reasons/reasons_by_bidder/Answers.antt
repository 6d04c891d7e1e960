use Rattle.std.proofs.Common.{◌≡◌, ◌-◌, ◌+◌, ℕ, ap, ap₂, arith, length, ◌∙◌, subst}
use Rattle.std.specs.List.{AllZip, range_with_len}
use Rattle.std.proofs.lemmas.Result.{IfOk-weaker}
use Rattle.auction_terms.specs.Terms.{lots_in}
use Rattle.bid_desk.specs.Closing.{book_of}
use Rattle.presolve.specs.Reasons.{reasons_of_form}
use Rattle.presolve.proofs.KeepFacts.{IsMade, length_book, made_for_all, made_for_each}
use Rattle.presolve.proofs.reasons.reasons_by_bidder.Goals as goal

pub returns : goal.returns
returns g c =
    let book = c.args.book.now in
    let of_form = reasons_of_form (lots_in book.rules) in
    let count = length c.bidders.result.now in
    let bidders : count ≡ length (book_of book) = length_book book c.rules.result.now c.bidders.result.now c.bidders.ensures.value c.rules.ensures.rules in
    let whole : count + 1 - 1 ≡ length (book_of book) = (let e : count + 1 - 1 ≡ count = omega arith in e ∙ bidders) in
    let range = ap (λ it. it.base) c.map.ensures.base ∙ c.with_min_len.ensures.base in
    let start : c.map.result.base.base.start ≡ 1 = ap (λ it. it.start) range ∙ c.into_par_iter.ensures.0 in
    let end : c.map.result.base.base.end ≡ count + 1 = ap (λ it. it.end) range ∙ c.into_par_iter.ensures.1 in
    let h = c.in_ok-made.ensures in
    let chain = rw c.map.ensures.f at h.1 in
    let every : chain.0 ≡ range_with_len 1 (count + 1 - 1) = chain.1 ∙ ap₂ range_with_len start (ap₂ (λ (e s : ℕ). e - s) end start) in
    IfOk-weaker c.in_ok-made.made _ _ (λ forms are. made_for_all of_form (book_of book) (count + 1 - 1) _ whole are)
    (made_for_each of_form (book_of book) (range_with_len 1 (count + 1 - 1)) c.in_ok-made.made h.0
    (subst (λ bidders. AllZip (IsMade of_form (book_of book)) bidders h.0) every chain.2) h.2)
