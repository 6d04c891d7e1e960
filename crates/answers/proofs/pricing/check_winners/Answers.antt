use Rattle.std.proofs.Common.{◌≡◌, ◌⊎◌, ◌∙◌, Some, ap}
use Rattle.std.proofs.Math.ListN.{drop_of_length-le}
use Rattle.auction_input.specs.declared.refusal.Refusal.{Refusal}
use Rattle.auction_input.specs.declared.refusal.Refusal.TheVariants as refusal
use Rattle.bid_desk.specs.Sale.{sale_of}
use Rattle.auction_input.proofs.StepFacts.{if-err-of}
use Rattle.answers.specs.Pricing.{winners_fault}
use Rattle.answers.proofs.PricingFacts.{winner-passed, winner-refused}
use Rattle.answers.proofs.pricing.check_winners.Goals as goal

pub loop-choice-preserved : goal.loop-choice-preserved
loop-choice-preserved c =
    winner-passed c.args.book.now.rules (sale_of c.args.book.now) c.args.given.now.prices.items c.args.choices.now c.loop-choice.choice-index
    (record { bidder = 0; bid = 0 }) c.loop-choice-test.true c.loop-choice.invariant c.in_ok-check_winner.ensures.fine

pub returns-in_err-check_winner-clause-refused : goal.returns-in_err-check_winner-clause-refused
returns-in_err-check_winner-clause-refused c =
    let r = c.in_err-check_winner.field-0.0 in
    if-err-of (λ (x : Refusal). (x ≡ refusal.OutOfMemory) ⊎ (winners_fault c.args.book.now.rules (sale_of c.args.book.now) c.args.given.now.prices.items
    c.args.choices.now ≡ Some x)) c.from_residual.result r c.from_residual.ensures.1
    (winner-refused c.args.book.now.rules (sale_of c.args.book.now) c.args.given.now.prices.items c.args.choices.now c.loop-choice.choice-index
    (record { bidder = 0; bid = 0 }) c.loop-choice-test.true c.loop-choice.invariant r c.in_err-check_winner.ensures.refused)

pub returns-clause-fine : goal.returns-clause-fine
returns-clause-fine c =
    let none = drop_of_length-le c.args.choices.now c.loop-choice-test.false in
    c.loop-choice.invariant ∙ ap (λ xs. winners_fault c.args.book.now.rules (sale_of c.args.book.now) c.args.given.now.prices.items xs) none
