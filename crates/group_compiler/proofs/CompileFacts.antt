-- Laws of the program of a group.
use Rattle.std.proofs.Common.{◌≡◌, ◌∙◌, ℕ, Bool, true, false, cond, List, [], ◌∷◌, ap, length, refl, sym, subst}
use Rattle.std.specs.Prelude.{All, ◌&&◌, filter, not}
use Rattle.std.specs.List.{AllByRecursion}
use Rattle.std.proofs.lemmas.List.{length-map}
use Rattle.std.proofs.lemmas.List.Elements.{All-from_recursion}
use Rattle.auction_terms.specs.declared.bids.KeptBid.{KeptBid}
use Rattle.auction_terms.specs.declared.bids.Choice.{Choice}
use Rattle.auction_terms.specs.declared.rules.Category.{Category}
use Rattle.auction_terms.specs.Allocations.{Book, form_of}
use Rattle.auction_terms.specs.Domination.{is_kept}
use Rattle.auction_terms.specs.Groups.{has}
use Rattle.auction_terms.specs.Keeping.{Offer, kept_of, offers_from}
use Rattle.auction_terms.specs.Limits.{AreOffers, IsBook}
use Rattle.auction_terms.specs.Offers.{offers}
use Rattle.auction_terms.specs.Packages.{Lots}
use Rattle.auction_terms.specs.Terms.{Terms, lots_in}
use Rattle.auction_terms.specs.inside.Keeping.{is_kept_offer}
use Rattle.auction_terms.proofs.LimitFacts.{kept_are_offers, offers_left}
use Rattle.bid_desk.specs.Closing.{Closing, book_of}
use Rattle.program_rows.specs.Rows.{program_of}
use Rattle.program_rows.specs.Selections.{selection_without}
use Rattle.program_rows.proofs.SelectionFacts.{selection_is_program}
use Rattle.group_compiler.specs.Compiled.{program_without}
use Rattle.group_compiler.specs.inside.Sharing.{shared_program}
use Rattle.presolve.specs.Flags.{has_choice, kept_among}

sized_offers : (lots : Lots) (ks : List KeptBid) → AreOffers lots (offers ks)
    → AllByRecursion (λ (k : KeptBid). length k.offer.now.package ≡ length lots.supply) ks
sized_offers lots [] a = tt
sized_offers lots (k ∷ ks) a = (a.0.bid.sized, sized_offers lots ks a.2)

-- offers in order have a quantity for each category
pub offers_are_sized : (rules : Terms) (ks : List KeptBid) → AreOffers (lots_in rules) (offers ks)
    → All (λ (k : KeptBid). length k.offer.now.package ≡ length rules.categories) ks
offers_are_sized rules ks are =
    subst (λ (n : ℕ). All (λ (k : KeptBid). length k.offer.now.package ≡ n) ks) (length-map rules.categories (λ (category : Category). category.supply))
    (All-from_recursion (λ (k : KeptBid). length k.offer.now.package ≡ length (lots_in rules).supply) ks (sized_offers (lots_in rules) ks are))

-- and so have kept bids
pub kept_are_sized : (rules : Terms) (book : Book) (group : ℕ → Bool) (ks : List KeptBid) → IsBook (lots_in rules) book
    → offers ks ≡ kept_of (lots_in rules) book group → All (λ (k : KeptBid). length k.offer.now.package ≡ length rules.categories) ks
kept_are_sized rules book group ks limits e =
    offers_are_sized rules ks (subst (λ (os : List Offer). AreOffers (lots_in rules) os) (sym e) (kept_are_offers (lots_in rules) book group limits))

-- and so have those among choices
pub among_are_sized : (rules : Terms) (book : Book) (group : ℕ → Bool) (choices : List Choice) (ks : List KeptBid)
    → IsBook (lots_in rules) book → offers ks ≡ kept_among (lots_in rules) book group choices
    → All (λ (k : KeptBid). length k.offer.now.package ≡ length rules.categories) ks
among_are_sized rules book group choices ks limits e =
    offers_are_sized rules ks (subst (λ (os : List Offer). AreOffers (lots_in rules) os) (sym e)
    (offers_left (lots_in rules) (λ o. has_choice choices o.bidder o.number) (kept_of (lots_in rules) book group)
    (kept_are_offers (lots_in rules) book group limits)))

-- what is kept without a group is what is kept of all, without the group's bids
pub kept_of_others : (lots : Lots) (book : Book) (group : ℕ → Bool) → filter (λ o. not (group o.bidder)) (kept_of lots book (has [])) ≡ kept_of lots book group
kept_of_others lots book group = by_offers (offers_from 1 book)
  where
    by_cases : (o : Offer) (rest more : List Offer) (kept out : Bool) → rest ≡ more
        → cond kept (cond (not out) (o ∷ rest) rest) rest ≡ cond (not out && kept) (o ∷ more) more
    by_cases o rest more true true e = e
    by_cases o rest more true false e = ap (λ (os : List Offer). o ∷ os) e
    by_cases o rest more false true e = e
    by_cases o rest more false false e = e

    inner : (o : Offer) (os : List Offer) (kept : Bool)
        → filter (λ p. not (group p.bidder)) (cond kept (o ∷ os) os)
        ≡ cond kept (cond (not (group o.bidder)) (o ∷ filter (λ p. not (group p.bidder)) os) (filter (λ p. not (group p.bidder)) os))
        (filter (λ p. not (group p.bidder)) os)
    inner o os true = refl
    inner o os false = refl

    by_offers : (os : List Offer) → filter (λ o. not (group o.bidder)) (filter (is_kept_offer lots book (has [])) os)
        ≡ filter (is_kept_offer lots book group) os
    by_offers [] = refl
    by_offers (o ∷ os) =
        inner o (filter (is_kept_offer lots book (has [])) os) (is_kept lots (form_of book o.bidder) o.bid)
        ∙ by_cases o (filter (λ p. not (group p.bidder)) (filter (is_kept_offer lots book (has [])) os))
        (filter (is_kept_offer lots book group) os) (is_kept lots (form_of book o.bidder) o.bid) (group o.bidder) (by_offers os)

-- what is left of the program of all that is kept is the program without the group
pub selection_is : (book : Closing) (group : List ℕ) → IsBook (lots_in book.rules) (book_of book)
    → selection_without (shared_program book) (has group) ≡ program_without book group
selection_is book group limits =
    let lots = lots_in book.rules in
    let forms = book_of book in
    selection_is_program lots (kept_of lots forms (has [])) (has group) (kept_are_offers lots forms (has []) limits)
    ∙ ap (λ (os : List Offer). program_of lots os) (kept_of_others lots forms (has group))
