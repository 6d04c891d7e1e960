-- The kept bids of a book within the limits are within the limits, in order.
use Rattle.std.proofs.Common.{◌≡◌, ℕ, zero, suc, ◌+◌, ◌<◌, ◌≤◌, inl, inr, Bool, List, [], ◌∷◌, ◌++◌, Some, slice_get}
use Rattle.std.proofs.Common.{slice_index_or, length, sym, refl, subst, arith}
use Rattle.std.specs.Prelude.{filter}
use Rattle.std.specs.List.{AllByRecursion}
use Rattle.std.proofs.lemmas.Bool.{cond_both}
use Rattle.std.proofs.lemmas.List.Elements.{All-filter, All-from_recursion, recursion_from_All}
use Rattle.auction_terms.specs.declared.bids.Bid.{Bid}
use Rattle.auction_terms.specs.Packages.{Lots}
use Rattle.auction_terms.specs.Allocations.{Book, form_of, bid_at, IsSized}
use Rattle.auction_terms.specs.Keeping.{Offer, offers_of_form, offers_from}
use Rattle.auction_terms.specs.inside.Keeping.{is_kept_offer}
use Rattle.auction_terms.specs.Limits.{IsBid, IsBook, IsBefore, AreOffers, KeptAreOffers}
use Rattle.auction_terms.proofs.OfferFacts.{all_agree, all_append}
use Rattle.auction_terms.specs.declared.limits.TheConstants.{MOST_BIDDERS, MOST_BIDS}

module _ {X : Type 0} (P : X → Type 0) where
  pub all_left : (q : X → Bool) (xs : List X) → AllByRecursion P xs → AllByRecursion P (filter q xs)
  all_left q xs h = recursion_from_All P (filter q xs) (All-filter q P xs (All-from_recursion P xs h))

  all_at : (xs : List X) (k : ℕ) (x : X) → AllByRecursion P xs → slice_get xs k ≡ Some x → P x
  all_at [] k x a e = cc
  all_at (y ∷ xs) zero x a e = let same : y ≡ x = cc in subst P same a.0
  all_at (y ∷ xs) (suc k) x a e = all_at xs k x a.1 e

  all_default : (d : X) → P d → (xs : List X) (k : ℕ) → AllByRecursion P xs → P (slice_index_or xs k d)
  all_default d h [] k a = h
  all_default d h (x ∷ xs) zero a = a.0
  all_default d h (x ∷ xs) (suc k) a = all_default d h xs k a.1

module _ (lots : Lots) where
  pub offers_left : (q : Offer → Bool) (xs : List Offer) → AreOffers lots xs → AreOffers lots (filter q xs)
  offers_left q [] h = tt
  offers_left q (o ∷ xs) h =
      let rest = offers_left q xs h.2 in
      cond_both (q o) (o ∷ filter q xs) (filter q xs) (AreOffers lots) (λ e. (h.0, all_left (IsBefore o) q xs h.1, rest)) (λ e. rest)

  -- of one form
  from_number : (b j : ℕ) (form : List Bid) → AllByRecursion (λ (o : Offer). (o.bidder ≡ b) × (j ≤ o.number)) (offers_of_form b j form)
  from_number b j [] = tt
  from_number b j (x ∷ form) = (
    (refl, omega arith),
    all_agree (λ (o : Offer). (o.bidder ≡ b) × (j + 1 ≤ o.number)) (λ (o : Offer).
        (o.bidder ≡ b) × (j ≤ o.number)) (offers_of_form b (j + 1) form) (λ o h. (h.0, omega (arith, h.1))) (from_number b (j + 1) form),
  )

  of_form : (b j : ℕ) (form : List Bid) → 1 ≤ b → b ≤ MOST_BIDDERS → 1 ≤ j → j + length form ≤ MOST_BIDS + 1
      → AllByRecursion (IsBid lots) form → AreOffers lots (offers_of_form b j form)
  of_form b j [] low high first last h = tt
  of_form b j (x ∷ form) low high first last h = (
    record { bidder_from = low; bidder_to = high; number_from = first; number_to = omega arith; bid = h.0 },
    all_agree (λ (o : Offer). (o.bidder ≡ b) × (j + 1 ≤ o.number)) (IsBefore record { bidder = b; number = j; bid = x })
        (offers_of_form b (j + 1) form) (λ o l. inr (sym l.0, omega (arith, l.1))) (from_number b (j + 1) form),
    of_form b (j + 1) form low high (omega arith) (omega arith) h.1,
  )

  together : (b : ℕ) (xs ys : List Offer) → AreOffers lots xs → AllByRecursion (λ (o : Offer). o.bidder ≡ b) xs
      → AllByRecursion (λ (o : Offer). b < o.bidder) ys → AreOffers lots ys → AreOffers lots (xs ++ ys)
  together b [] ys h e l k = k
  together b (x ∷ xs) ys h e l k = (
    h.0,
    all_append (IsBefore x) xs ys h.1 (all_agree (λ (o : Offer). b < o.bidder) (IsBefore x) ys
        (λ o less. inl (let f = e.0 in omega arith)) l),
    together b xs ys h.2 e.1 l k,
  )

  -- of all forms
  from_bidder : (b : ℕ) (book : Book) → AllByRecursion (λ (o : Offer). b ≤ o.bidder) (offers_from b book)
  from_bidder b [] = tt
  from_bidder b (form ∷ book) = all_append (λ (o : Offer). b ≤ o.bidder) (offers_of_form b 1 form) (offers_from (b + 1) book)
      (all_agree (λ (o : Offer). (o.bidder ≡ b) × (1 ≤ o.number)) (λ (o : Offer). b ≤ o.bidder) (offers_of_form b 1 form)
      (λ o h. let e = h.0 in omega arith) (from_number b 1 form))
      (all_agree (λ (o : Offer). b + 1 ≤ o.bidder) (λ (o : Offer). b ≤ o.bidder) (offers_from (b + 1) book) (λ o h. omega arith) (from_bidder (b + 1) book))

  of_book : (b : ℕ) (book : Book) → 1 ≤ b → b + length book ≤ MOST_BIDDERS + 1 → AllByRecursion (λ form. length form ≤ MOST_BIDS) book
      → AllByRecursion (λ form. AllByRecursion (IsBid lots) form) book → AreOffers lots (offers_from b book)
  of_book b [] low high f h = tt
  of_book b (form ∷ book) low high f h = together b (offers_of_form b 1 form) (offers_from (b + 1) book)
      (of_form b 1 form low (omega arith) (omega arith) (let l = f.0 in omega arith) h.0)
      (all_agree (λ (o : Offer). (o.bidder ≡ b) × (1 ≤ o.number)) (λ (o : Offer). o.bidder ≡ b) (offers_of_form b 1 form) (λ o h. h.0) (from_number b 1 form))
      (all_agree (λ (o : Offer). b + 1 ≤ o.bidder) (λ (o : Offer). b < o.bidder) (offers_from (b + 1) book) (λ o h. omega arith) (from_bidder (b + 1) book))
      (of_book (b + 1) book (omega arith) (omega arith) f.1 h.1)

pub kept_are_offers : KeptAreOffers
kept_are_offers lots book group h = offers_left lots (is_kept_offer lots book group) (offers_from 1 book)
    (of_book lots 1 book (omega arith) (let l = h.bidders in omega arith) h.forms h.bids)

-- the bids of a book within the limits have a quantity for each category
bid_within : (lots : Lots) (book : Book) → IsBook lots book → (b j : ℕ) (x : Bid) → bid_at (form_of book b) j ≡ Some x → IsBid lots x
bid_within lots book h zero zero x e = cc
bid_within lots book h zero (suc j) x e = cc
bid_within lots book h (suc b) zero x e = cc
bid_within lots book h (suc b) (suc j) x e = all_at (IsBid lots) (form_of book (suc b)) j x
    (all_default (λ (form : List Bid). AllByRecursion (IsBid lots) form) [] tt book b h.bids) e

pub sized : (lots : Lots) (book : Book) → IsBook lots book → IsSized lots book
sized lots book h b j x e = (bid_within lots book h b j x e).sized
