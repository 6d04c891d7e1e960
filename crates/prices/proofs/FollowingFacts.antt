-- What each winner costs alone is one number, and so the prices of the rule are the same, whoever finds them.
use Rattle.std.proofs.Common.{◌≡◌, ℕ, ◌*◌, ◌≤◌, List, [], ◌∷◌, slice_index_or, sym, ap, ◌∙◌, subst}
use Rattle.std.specs.Prelude.{All}
use Rattle.std.specs.List.{AllByRecursion}
use Rattle.std.proofs.lemmas.List.Elements.{recursion_from_All}
use Rattle.auction_terms.specs.declared.bids.Choice.{Choice}
use Rattle.auction_terms.specs.Packages.{Lots}
use Rattle.auction_terms.specs.Allocations.{Book}
use Rattle.auction_terms.specs.Limits.{IsBook}
use Rattle.auction_terms.proofs.OfferFacts.{all_agree, sum_agree}
use Rattle.prices.specs.Following.{ExactPricesFollow, ThePricesFollow}
use Rattle.prices.specs.Alone.{AreCostsAlone}
use Rattle.prices.specs.Parts.{AreThePrices, apart, distance_from_alone, in_smaller, square}
use Rattle.prices.proofs.ExistFacts.{every_group_has_a_cost}
use Rattle.prices.proofs.RoundingFacts.{rounded_up_is_one}
use Rattle.prices.proofs.RuleFacts.{the_prices_are_one}

both_alone : (reserves : List ℕ) (lots : Lots) (book : Book) (first : List Choice) (alone alone' : ℕ → ℕ) → IsBook lots book
    → AreCostsAlone reserves lots book first alone → AreCostsAlone reserves lots book first alone' → All (λ c. alone c.bidder ≡ alone' c.bidder) first
both_alone reserves lots book first alone alone' within a b k d l =
    let c : Choice = slice_index_or first k d in
    let there = every_group_has_a_cost lots book (c.bidder ∷ []) within in
    a k d l there.0 there.1 ∙ sym (b k d l there.0 there.1)

same_distance : (alone alone' : ℕ → ℕ) (parts : ℕ) (price : ℕ → ℕ) (first : List Choice) → AllByRecursion (λ c. alone c.bidder ≡ alone' c.bidder) first
    → distance_from_alone alone first parts price ≡ distance_from_alone alone' first parts price
same_distance alone alone' parts price first h =
    sum_agree (λ c. square (apart (price c.bidder) (parts * alone c.bidder))) (λ c. square (apart (price c.bidder) (parts * alone' c.bidder))) first
    (all_agree (λ c. alone c.bidder ≡ alone' c.bidder)
    (λ c. square (apart (price c.bidder) (parts * alone c.bidder)) ≡ square (apart (price c.bidder) (parts * alone' c.bidder))) first
    (λ c e. ap (λ (n : ℕ). square (apart (price c.bidder) (parts * n))) e) h)

measured_alike : (reserves : List ℕ) (lots : Lots) (book : Book) (first : List Choice) (alone alone' : ℕ → ℕ) (parts : ℕ) (price : ℕ → ℕ)
    → AllByRecursion (λ c. alone c.bidder ≡ alone' c.bidder) first
    → AreThePrices reserves lots book first alone' parts price → AreThePrices reserves lots book first alone parts price
measured_alike reserves lots book first alone alone' parts price h a = record {
  suffice = a.suffice;
  least = a.least;
  nearest = λ parts' price' suffice less near.
      let left = same_distance alone alone' (parts * parts') (in_smaller parts price') first h in
      let right = same_distance alone alone' (parts * parts') (in_smaller parts' price) first h in
      a.nearest parts' price' suffice less
      (subst (λ (n : ℕ). n ≤ distance_from_alone alone' first (parts * parts') (in_smaller parts' price)) left
      (subst (λ (n : ℕ). distance_from_alone alone first (parts * parts') (in_smaller parts price') ≤ n) right near));
}

pub the_prices_follow : ThePricesFollow
the_prices_follow reserves lots book first alone alone' parts parts' price price' within costs prices costs' prices' =
    let same = recursion_from_All _ first (both_alone reserves lots book first alone alone' within costs costs') in
    rounded_up_is_one reserves lots book first alone parts parts' price price' prices
    (measured_alike reserves lots book first alone alone' parts' price' same prices')

pub exact_prices_follow : ExactPricesFollow
exact_prices_follow reserves lots book first alone alone' parts parts' price price' within costs prices costs' prices' =
    let same = recursion_from_All _ first (both_alone reserves lots book first alone alone' within costs costs') in
    the_prices_are_one reserves lots book first alone parts parts' price price' prices
    (measured_alike reserves lots book first alone alone' parts' price' same prices')
