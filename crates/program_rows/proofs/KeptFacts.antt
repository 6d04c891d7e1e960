-- Kept bids are within the limits of offers.
use Rattle.std.proofs.Common.{◌≡◌, zero, suc, List, [], ◌∷◌, length, arith, sym, ◌∙◌}
use Rattle.std.specs.Prelude.{All, AllPairs}
use Rattle.std.specs.List.{AllByRecursion}
use Rattle.std.proofs.lemmas.List.{length-map}
use Rattle.std.proofs.lemmas.List.Elements.{recursion_from_All}
use Rattle.auction_terms.specs.declared.rules.Category.{Category}
use Rattle.auction_terms.specs.declared.bids.KeptBid.{KeptBid}
use Rattle.auction_terms.specs.Packages.{Lots}
use Rattle.auction_terms.specs.Terms.{Terms, lots_in}
use Rattle.auction_terms.specs.Bids.{IsKeptBid, Precedes, AreKept}
use Rattle.auction_terms.specs.Limits.{IsOffer, IsBefore, AreOffers}
use Rattle.auction_terms.specs.Offers.{offer_of, offers}
use Rattle.auction_terms.proofs.OfferFacts.{all_agree}
use Rattle.program_rows.proofs.EachFacts.{each_map}

abbrev IsSized : Lots → KeptBid → Type 0
IsSized lots k = length k.offer.now.package ≡ length lots.supply

is_offer : (lots : Lots) (k : KeptBid) → IsSized lots k → IsKeptBid k → IsOffer lots (offer_of k)
is_offer lots k sized h = record {
  bidder_from = h.some_bidder;
  bidder_to = h.bidders;
  number_from = h.some_bid;
  number_to = h.bids;
  bid = record { sized = sized; quantities = recursion_from_All _ _ h.quantities.each; amount = h.amounts };
}

offers_from : (lots : Lots) (ks : List KeptBid) → AllByRecursion (IsSized lots) ks → AllByRecursion IsKeptBid ks → AllPairs Precedes ks
    → AreOffers lots (offers ks)
offers_from lots [] sized each rising = tt
offers_from lots (k ∷ ks) sized each rising = (
  is_offer lots k sized.0 each.0,
  each_map (IsBefore (offer_of k)) offer_of ks (recursion_from_All (Precedes k) ks (λ i d l. rising zero (suc i) d (omega arith) (omega arith))),
  offers_from lots ks sized.1 each.1 (λ i j d l m. rising (suc i) (suc j) d (omega arith) (omega arith)),
)

pub are_offers : (t : Terms) (ks : List KeptBid) → All (λ k. length k.offer.now.package ≡ length t.categories) ks → AreKept ks
    → AreOffers (lots_in t) (offers ks)
are_offers t ks sized h =
    offers_from (lots_in t) ks (all_agree _ (IsSized (lots_in t)) ks
    (λ k e. e ∙ sym (length-map t.categories (λ (category : Category). category.supply)))
    (recursion_from_All (λ k. length k.offer.now.package ≡ length t.categories) ks sized)) (recursion_from_All IsKeptBid ks h.each)
    h.rising
