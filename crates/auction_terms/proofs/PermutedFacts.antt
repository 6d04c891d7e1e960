-- Laws of allocations in whatever order.
use Rattle.std.proofs.Common.{◌≡◌, ℕ, ◌+◌, Bool, true, ◌==◌, cond, List, [], ◌∷◌, length, refl, ap, ap₂, ◌∙◌, arith, map}
use Rattle.std.specs.Prelude.{sum_by, IsPermutation}
use Rattle.std.specs.List.{range_with_len}
use Rattle.std.proofs.lemmas.List.Sorted.{All-permutation, sum_by-IsPermutation}
use Rattle.auction_terms.specs.declared.bids.Choice.{Choice}
use Rattle.auction_terms.specs.Packages.{Lots, fits, left, worth}
use Rattle.auction_terms.specs.Allocations.{Book, amount_of, quantity_of, total}
use Rattle.auction_terms.specs.Allocations.{loads, is_eligible, IsFeasible}

module _ {X Y : Type 0} where
  map_agree : (f g : X → Y) → ((x : X) → f x ≡ g x) → (xs : List X) → map f xs ≡ map g xs
  map_agree f g h [] = refl
  map_agree f g h (x ∷ xs) = ap₂ (λ (y : Y) (ys : List Y). y ∷ ys) (h x) (map_agree f g h xs)

-- ---------- the order of the choices ----------

module _ (lots : Lots) (book : Book) where
  pub loads_permuted : (a b : List Choice) → IsPermutation a b → loads lots book b ≡ loads lots book a
  loads_permuted a b moved = map_agree (λ category. sum_by (quantity_of book category) b) (λ category. sum_by (quantity_of book category) a)
      (λ category. sum_by-IsPermutation (quantity_of book category) a b moved) (range_with_len 0 (length lots.supply))

  pub total_permuted : (a b : List Choice) → IsPermutation a b → total lots book b ≡ total lots book a
  total_permuted a b moved = ap₂ (λ (n : ℕ) (q : List ℕ). n + worth lots (left lots.supply q))
      (sum_by-IsPermutation (amount_of book) a b moved) (loads_permuted a b moved)

  pub feasible_permuted : (group : ℕ → Bool) (a b : List Choice) → IsPermutation a b → IsFeasible lots book group a → IsFeasible lots book group b
  feasible_permuted group a b moved f = record {
    one_bid_each = λ bidder. let e =
        sum_by-IsPermutation (λ (c : Choice). cond (c.bidder == bidder) 1 0) a b moved in let o = f.one_bid_each bidder in omega arith;
    eligible = All-permutation (λ c. is_eligible book group c ≡ true) a b moved f.eligible;
    fit = ap (λ (q : List ℕ). fits lots q) (loads_permuted a b moved) ∙ f.fit;
  }
