-- What is left of categories, one after the other.
use Rattle.std.proofs.Common.{◌≡◌, ℕ, zero, suc, ◌+◌, ◌-◌, ◌*◌, ◌<◌, ◌≤◌, List, [], ◌∷◌, drop, length, map, refl, ap, arith, slice_index}
use Rattle.std.specs.List.{range_with_len}
use Rattle.auction_terms.specs.declared.rules.Category.{Category}
use Rattle.auction_terms.specs.Packages.{left, weighed}

module _ (taken : ℕ → ℕ) where
  -- what is left of these categories is worth, of which the first has this place
  abbrev pub worth_from : ℕ → List Category → ℕ
  worth_from place [] = 0
  worth_from place (c ∷ categories) = c.value * (c.supply - taken place) + worth_from (place + 1) categories

  pub worth_is : (place : ℕ) (categories : List Category)
      → weighed (map (λ c. c.value) categories) (left (map (λ c. c.supply) categories)
      (map taken (range_with_len place (length (map (λ c. c.supply) categories))))) ≡ worth_from place categories
  worth_is place [] = refl
  worth_is place (c ∷ categories) = ap (λ (n : ℕ). c.value * (c.supply - taken place) + n) (worth_is (place + 1) categories)

  -- the category at a place, and then those after it
  pub worth_at : (i j place : ℕ) (categories : List Category) → i < length categories → j ≡ i + 1
      → worth_from place (drop i categories) ≡ slice_index (map (λ c. c.value) categories) i *
      (slice_index (map (λ c. c.supply) categories) i - taken place) + worth_from (place + 1) (drop j categories)
  worth_at i j place [] h e = absurd (omega arith)
  worth_at zero zero place (c ∷ categories) h e = absurd (omega arith)
  worth_at zero (suc j) place (c ∷ categories) h e = let none : j ≡ 0 = omega arith in rw none refl
  worth_at (suc i) zero place (c ∷ categories) h e = absurd (omega arith)
  worth_at (suc i) (suc j) place (c ∷ categories) h e = worth_at i j place categories (omega arith) (omega arith)

  pub worth_end : (i place : ℕ) (categories : List Category) → length categories ≤ i → worth_from place (drop i categories) ≡ 0
  worth_end zero place [] h = refl
  worth_end (suc i) place [] h = refl
  worth_end zero place (c ∷ categories) h = absurd (omega arith)
  worth_end (suc i) place (c ∷ categories) h = worth_end i place categories (omega arith)

  -- a sum with what is left of the other categories, one category further
  pub one_further : (i j : ℕ) (categories : List Category) (sum one whole : ℕ) → i < length categories → j ≡ i + 1
      → sum + worth_from i (drop i categories) ≡ whole
      → one ≡ slice_index (map (λ c. c.value) categories) i * (slice_index (map (λ c. c.supply) categories) i - taken i)
      → sum + one + worth_from j (drop j categories) ≡ whole
  one_further i j categories sum one whole h e so_far is =
      let next = worth_at i j i categories h e in
      let place : worth_from j (drop j categories) ≡ worth_from (i + 1) (drop j categories) = ap (λ (k : ℕ). worth_from k (drop j categories)) e in
      omega arith

  -- and after the last one
  pub whole_sum : (i : ℕ) (categories : List Category) (sum : ℕ) → length categories ≤ i → sum + worth_from i (drop i categories) ≡ worth_from 0 categories
      → sum ≡ weighed (map (λ c. c.value) categories) (left (map (λ c. c.supply) categories)
      (map taken (range_with_len 0 (length (map (λ c. c.supply) categories)))))
  whole_sum i categories sum h so_far =
      let nothing = worth_end i i categories h in
      let whole = worth_is 0 categories in
      omega arith
