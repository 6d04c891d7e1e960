-- What the code compares of weights, one group and one winner after the other.
use Rattle.std.proofs.Common.{◌≡◌, ℕ, zero, suc, ◌+◌, ◌*◌, ◌<◌, Bool, true, false, List, [], ◌∷◌, drop, length, slice_index_or, refl, sym, ap, ap₂, ◌∙◌, subst, arith, pos}
use Rattle.std.specs.Prelude.{int_le, ◌==◌, ◌&&◌, ◌||◌, ◌*ℤ◌}
use Rattle.std.specs.List.{AllByRecursion, list_all}
use Rattle.auction_terms.specs.declared.bids.Choice.{Choice}
use Rattle.auction_terms.specs.Groups.{has}
use Rattle.auction_terms.specs.Packages.{Lots}
use Rattle.auction_terms.specs.Allocations.{Book}
use Rattle.auction_terms.proofs.OfferFacts.{sum_filter}
use Rattle.outcome.specs.Pricing.{price_in}
use Rattle.outcome.specs.Report.{cost}
use Rattle.program_rows.proofs.EachFacts.{each}
use Rattle.prices.specs.inside.Weighing.{even_by, moved_by, paid_in}
use Rattle.prices.specs.Rule.{is_moved, is_tight}
use Rattle.prices.specs.Weights.{Weighted, listed_weights, weighted, weights_on}
use Rattle.prices.proofs.FewFacts.{weights_are}

same_tests : {X : Type 0} (p q : X → Bool) (xs : List X) → AllByRecursion (λ x. p x ≡ q x) xs → list_all p xs ≡ list_all q xs
same_tests p q [] h = refl
same_tests p q (x ∷ xs) h = ap₂ (λ (a b : Bool). a && b) h.0 (same_tests p q xs h.1)

-- ---------- one winner after the other ----------

module _ (groups : List (List ℕ)) (won : List (List Choice)) (weights : List ℕ) (many : length won ≡ length groups) (own : List ℕ) (first : List Choice) (scale : ℕ) where
  pub even_is : list_all (λ c. even_by groups weights (price_in own) scale c.bidder) first
      ≡ list_all (λ c. weights_on (listed_weights groups won scale weights own) c == scale) first
  even_is = same_tests (λ (c : Choice). even_by groups weights (price_in own) scale c.bidder)
      (λ (c : Choice). weights_on (listed_weights groups won scale weights own) c == scale) first
      (each _ first (λ c. ap (λ (n : ℕ). n + price_in own c.bidder == scale) (sym (weights_are groups won weights c.bidder many))))

  pub moved_is : (alone : ℕ → ℕ) (parts : ℕ) (price : ℕ → ℕ) (push : ℕ)
      → list_all (λ c. moved_by groups weights (price_in own) scale alone parts price push c.bidder) first
      ≡ list_all (is_moved alone parts price push (listed_weights groups won scale weights own)) first
  moved_is alone parts price push = same_tests (λ (c : Choice). moved_by groups weights (price_in own) scale alone parts price push c.bidder)
      (is_moved alone parts price push (listed_weights groups won scale weights own)) first
      (each _ first (λ c. ap (λ (n : ℕ). scale * price c.bidder + push == scale * (parts * alone c.bidder) + (n + price_in own c.bidder))
      (sym (weights_are groups won weights c.bidder many))))

-- ---------- one group after the other ----------

pub tight_is : (lots : Lots) (book : Book) (first : List Choice) (parts : ℕ) (price : ℕ → ℕ) (weight : ℕ) (group : List ℕ) (without : List Choice) (r : Bool)
    → r ≡ (weight == 0 || int_le (pos (paid_in group price first)) (pos parts *ℤ cost lots book first group without))
    → r ≡ is_tight lots book first parts price (record { weight = weight; group = group; without = without })
tight_is lots book first parts price weight group without r e =
    e ∙ ap (λ (n : ℕ). weight == 0 || int_le (pos n) (pos parts *ℤ cost lots book first group without))
    (sym (sum_filter (λ (c : Choice). price c.bidder) (λ c. has group c.bidder) first))

-- one more group
module _ (p : Weighted → Bool) where
  group_step : (groups : List (List ℕ)) (won : List (List Choice)) (weights : List ℕ) (i : ℕ) (d : List Choice)
      → i < length groups → i < length won → i < length weights
      → list_all p (weighted (drop i groups) (drop i won) (drop i weights))
      ≡ (p (record { weight = slice_index_or weights i 0; group = slice_index_or groups i []; without = slice_index_or won i d })
      && list_all p (weighted (drop (suc i) groups) (drop (suc i) won) (drop (suc i) weights)))
  group_step [] won weights i d l m n = absurd (omega arith)
  group_step (g ∷ groups) [] weights i d l m n = absurd (omega arith)
  group_step (g ∷ groups) (w ∷ won) [] i d l m n = absurd (omega arith)
  group_step (g ∷ groups) (w ∷ won) (y ∷ weights) zero d l m n = refl
  group_step (g ∷ groups) (w ∷ won) (y ∷ weights) (suc i) d l m n = group_step groups won weights i d (omega arith) (omega arith) (omega arith)

  module _ (groups : List (List ℕ)) (won : List (List Choice)) (weights : List ℕ) (i k : ℕ) (g : List ℕ) (w : List Choice) (r all : Bool)
      (within : i < length groups) (within' : i < length won) (within'' : i < length weights)
      (place : k ≡ i) (group : g ≡ slice_index_or groups k []) (alloc : w ≡ slice_index_or won i w)
      (result : r ≡ p (record { weight = slice_index_or weights i 0; group = g; without = w }))
      (so_far : list_all p (weighted (drop i groups) (drop i won) (drop i weights)) ≡ all) where
    here : list_all p (weighted (drop i groups) (drop i won) (drop i weights))
        ≡ (r && list_all p (weighted (drop (suc i) groups) (drop (suc i) won) (drop (suc i) weights)))
    here =
        let of_group : g ≡ slice_index_or groups i [] = group ∙ ap (λ (x : ℕ). slice_index_or groups x []) place in
        let same : r ≡ p (record { weight = slice_index_or weights i 0; group = slice_index_or groups i []; without = slice_index_or won i w }) =
        result ∙ ap₂ (λ (x : List ℕ) (y : List Choice). p (record { weight = slice_index_or weights i 0; group = x; without = y })) of_group alloc in
        group_step groups won weights i w within within' within''
        ∙ ap (λ (b : Bool). b && list_all p (weighted (drop (suc i) groups) (drop (suc i) won) (drop (suc i) weights))) (sym same)

    pub group_passes : r ≡ true → list_all p (weighted (drop (i + 1) groups) (drop (i + 1) won) (drop (i + 1) weights)) ≡ all
    group_passes e =
        let after : i + 1 ≡ suc i = omega arith in
        let step : list_all p (weighted (drop i groups) (drop i won) (drop i weights))
        ≡ list_all p (weighted (drop (suc i) groups) (drop (suc i) won) (drop (suc i) weights)) =
        here ∙ ap (λ (b : Bool). b && list_all p (weighted (drop (suc i) groups) (drop (suc i) won) (drop (suc i) weights))) e in
        subst (λ (x : ℕ). list_all p (weighted (drop x groups) (drop x won) (drop x weights)) ≡ all) (sym after) (sym step ∙ so_far)

    pub group_fails : r ≡ false → false ≡ all
    group_fails e =
        let step : list_all p (weighted (drop i groups) (drop i won) (drop i weights)) ≡ false =
        here ∙ ap (λ (b : Bool). b && list_all p (weighted (drop (suc i) groups) (drop (suc i) won) (drop (suc i) weights))) e in
        sym step ∙ so_far
