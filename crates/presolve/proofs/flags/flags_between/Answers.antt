use Rattle.std.proofs.Common.{◌≡◌, ◌-◌, ℕ, ap, ap₂, ◌∙◌, subst}
use Rattle.std.specs.List.{AllZip, range_with_len}
use Rattle.auction_terms.specs.Terms.{lots_in}
use Rattle.bid_desk.specs.Closing.{book_of}
use Rattle.presolve.proofs.KeepFacts.{IsMade, made_for_each}
use Rattle.presolve.specs.Flags.{flags_of_form}
use Rattle.presolve.proofs.flags.flags_between.Goals as goal

pub returns : goal.returns
returns g c =
    let book = c.args.book.now in
    let range = ap (λ it. it.base) c.map.ensures.base ∙ c.with_min_len.ensures.base in
    let start : c.map.result.base.base.start ≡ c.args.first = ap (λ it. it.start) range ∙ c.into_par_iter.ensures.0 in
    let end : c.map.result.base.base.end ≡ c.args.end = ap (λ it. it.end) range ∙ c.into_par_iter.ensures.1 in
    let h = c.in_ok-made.ensures in
    let chain = rw c.map.ensures.f at h.1 in
    let every : chain.0 ≡ range_with_len c.args.first (c.args.end - c.args.first) = chain.1 ∙ ap₂ range_with_len start (ap₂ (λ (e s : ℕ). e - s) end start) in
    made_for_each (flags_of_form (lots_in book.rules)) (book_of book) (range_with_len c.args.first (c.args.end - c.args.first)) c.in_ok-made.made h.0
    (subst (λ bidders. AllZip (IsMade (flags_of_form (lots_in book.rules)) (book_of book)) bidders h.0) every chain.2) h.2
