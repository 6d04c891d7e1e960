use Rattle.std.proofs.Common.{◌≡◌, ◌+◌, ◌<◌, ◌≤◌, ◌∙◌, List, ap, arith, drop, length, refl, sum_by}
use Rattle.std.proofs.lemmas.Bool.Decides.{nat_tests}
use Rattle.std.proofs.lemmas.List.{drop_all}
use Rattle.std.proofs.lemmas.List.Sums.{sum_by-cons}
use Rattle.auction_terms.specs.Allocations.{form_of}
use Rattle.auction_terms.specs.declared.bids.Bid.{Bid}
use Rattle.bid_desk.specs.Closing.{book_of}
use Rattle.presolve.proofs.KeepFacts.{length_book, next_form}
use Rattle.presolve.proofs.few_bids.has_few_bids.Goals as goal
use Rattle.presolve.proofs.few_bids.has_few_bids.Goals.{in-Some, in_default}

pub loop-place-init : goal.loop-place-init
loop-place-init c = refl

pub loop-place-preserved : goal.loop-place-preserved
loop-place-preserved c =
    let book = book_of c.args.book.now in
    let bidders : length c.bidders.result.now ≡ length book =
    length_book c.args.book.now c.rules.result.now c.bidders.result.now c.bidders.ensures.value c.rules.ensures.rules in
    let within : c.loop-place.place < length book = (let l = c.loop-place-test.true in omega arith) in
    let next = next_form book c.loop-place.place within in
    let here : sum_by (λ (form : List Bid). length form) (drop c.loop-place.place book)
    ≡ length (form_of book (c.loop-place.place + 1)) + sum_by (λ (form : List Bid). length form) (drop (c.loop-place.place + 1) book) =
    ap (sum_by (λ (form : List Bid). length form)) next ∙ sum_by-cons (λ (form : List Bid). length form)
    (form_of book (c.loop-place.place + 1)) (drop (c.loop-place.place + 1) book) in
    let so_far = c.loop-place.invariant in
    elim c.match-form.branch [
      | in-Some w ↦ (
          let bids = ap length (w.bids.ensures.bids ∙ w.in-Some.ensures.bids) in
          let sub = w.saturating_sub-left.ensures in
          let is = w.left-is in
          omega arith)
      | in_default w ↦ (
          let none = ap length w.in_default.ensures.bids in
          let is = w.left-is in
          omega arith)
    ]

pub returns : goal.returns
returns c =
    let book = book_of c.args.book.now in
    let bidders : length c.bidders.result.now ≡ length book =
    length_book c.args.book.now c.rules.result.now c.bidders.result.now c.bidders.ensures.value c.rules.ensures.rules in
    let over : length book ≤ c.loop-place.place = (let l = c.loop-place-test.false in omega arith) in
    let none : sum_by (λ (form : List Bid). length form) (drop c.loop-place.place book) ≡ 0 =
    ap (sum_by (λ (form : List Bid). length form)) (drop_all c.loop-place.place book over) in
    let so_far = c.loop-place.invariant in
    grind (arith, nat_tests)
