use Rattle.std.proofs.Common.{ap, sym, ◌∙◌, subst}
use Rattle.std.specs.Prelude.{IfSome, Option}
use Rattle.std.specs.Option.{option_map}
use Rattle.bid_forms.specs.Offers.{Offers, Meets}
use Rattle.bid_book.specs.declared.standing.Standing.{Standing}
use Rattle.bid_desk.specs.Closing.{bids_in, closing}
use Rattle.bid_desk.proofs.ClosingFacts.{form_of-book_of, standing_of-meets}
use Rattle.bid_desk.proofs.closed.ClosedBook.form.Goals as goal

pub returns-in-None-clause-bids : goal.returns-in-None-clause-bids
returns-in-None-clause-bids c =
    let k = closing c.self.inside.rules c.self.inside.book in
    rw (← c.self.view_is) (ap (λ (s : Option (Standing Offers)). bids_in (option_map (λ (s : Standing Offers). s.form) s)) c.in-None.ensures
    ∙ form_of-book_of k c.self.invariant.entries c.args.bidder)

pub returns-in-Some-clause-bids : goal.returns-in-Some-clause-bids
returns-in-Some-clause-bids c =
    let k = closing c.self.inside.rules c.self.inside.book in
    rw (← c.self.view_is) (ap (λ (o : Offers). o.bids) c.deref.ensures ∙ ap
    (λ (s : Option (Standing Offers)). bids_in (option_map (λ (s : Standing Offers). s.form) s)) c.in-Some.ensures
    ∙ form_of-book_of k c.self.invariant.entries c.args.bidder)

pub returns-in-Some-clause-meets : goal.returns-in-Some-clause-meets
returns-in-Some-clause-meets c =
    let t = c.self.inside.rules in
    let stands = subst (λ (s : Option (Standing Offers)). IfSome s (λ s. Meets t s.form)) (sym c.in-Some.ensures)
    (standing_of-meets t c.self.inside.book c.self.invariant.entries c.args.bidder) in
    rw (← c.self.view_is) (subst (λ (o : Offers). Meets t o) (sym c.deref.ensures) stands)
