use Rattle.std.proofs.Common.{◌≡◌, ◌-◌, ◌+◌, ◌/◌, ℕ, Vec, Global, Bool, ap, arith, length, map, ◌∙◌}
use Rattle.std.proofs.lemmas.Result.{IfOk-weaker}
use Rattle.std.specs.List.{range_with_len}
use Rattle.auction_terms.specs.Terms.{lots_in}
use Rattle.bid_desk.specs.Closing.{book_of}
use Rattle.presolve.specs.Flags.{flags_of_form}
use Rattle.presolve.specs.inside.Flags.{flags_of_bidders}
use Rattle.presolve.proofs.KeepFacts.{length_book, made_for_all, made_in_two}
use Rattle.presolve.proofs.flags.flags_by_bidder.Goals as goal

pub returns : goal.returns
returns g c =
    let book = c.args.book.now in
    let lots = lots_in book.rules in
    let count = length c.bidders.result.now in
    let half = count / 2 in
    let rest = count + 1 - (half + 1) in
    let bidders : count ≡ length (book_of book) = length_book book c.rules.result.now c.bidders.result.now c.bidders.ensures.value c.rules.ensures.rules in
    let whole : half + rest ≡ length (book_of book) = (let e : half + rest ≡ count = omega arith in e ∙ bidders) in
    let front = rw c.in_ok-forms.was at c.join-front.ensures.first in
    let back = rw c.in_ok-others.was at c.join-front.ensures.second in
    let front_len : half + 1 - 1 ≡ half = omega arith in
    let back_start : half + 1 ≡ 1 + half = omega arith in
    ap (map (λ (form : Vec Bool Global). form.items)) c.in_ok-append.ensures.items
    ∙ made_in_two (flags_of_form lots) (book_of book) half rest c.in_ok-forms.forms.items c.in_ok-others.others.items whole
    (front ∙ ap (λ (n : ℕ). flags_of_bidders lots (book_of book) (range_with_len 1 n)) front_len)
    (back ∙ ap (λ (n : ℕ). flags_of_bidders lots (book_of book) (range_with_len n rest)) back_start)

pub returns-then-has_few_bids : goal.returns-then-has_few_bids
returns-then-has_few_bids g c =
    let book = c.args.book.now in
    let lots = lots_in book.rules in
    let count = length c.bidders.result.now in
    let bidders : count ≡ length (book_of book) = length_book book c.rules.result.now c.bidders.result.now c.bidders.ensures.value c.rules.ensures.rules in
    let whole : count + 1 - 1 ≡ length (book_of book) = (let e : count + 1 - 1 ≡ count = omega arith in e ∙ bidders) in
    IfOk-weaker c.flags_between.result _ _ (λ forms are. made_for_all (flags_of_form lots) (book_of book) (count + 1 - 1) _ whole are) c.flags_between.ensures
