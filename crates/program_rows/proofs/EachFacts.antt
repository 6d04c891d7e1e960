-- What holds of each item of a list, and the item at a place.
use Rattle.std.proofs.Common.{◌≡◌, ℕ, zero, suc, ◌+◌, ◌<◌, ◌≤◌, List, [], ◌∷◌, Some, drop, length, map, slice_get, refl, ap, ◌∙◌, subst, arith, le_refl}
use Rattle.std.specs.List.{AllByRecursion, range_with_len}

pub each : {X : Type 0} (P : X → Type 0) (xs : List X) → ((x : X) → P x) → AllByRecursion P xs
each P [] h = tt
each P (x ∷ xs) h = (h x, each P xs h)

pub each_map : {X Y : Type 0} (P : Y → Type 0) (f : X → Y) (xs : List X) → AllByRecursion (λ x. P (f x)) xs → AllByRecursion P (map f xs)
each_map P f [] h = tt
each_map P f (x ∷ xs) h = (h.0, each_map P f xs h.1)

pub in_range : (P : ℕ → Type 0) (a n : ℕ) → ((k : ℕ) → a ≤ k → k < a + n → P k) → AllByRecursion P (range_with_len a n)
in_range P a zero h = tt
in_range P a (suc n) h = (h a (le_refl a) (omega arith), in_range P (a + 1) n (λ k l m. h k (omega arith) (omega arith)))

pub at_place : {X : Type 0} (P : X → Type 0) (xs : List X) (k : ℕ) (x : X) → AllByRecursion P xs → slice_get xs k ≡ Some x → P x
at_place P [] k x a e = cc
at_place P (y ∷ xs) zero x a e = let same : y ≡ x = cc in subst P same a.0
at_place P (y ∷ xs) (suc k) x a e = at_place P xs k x a.1 e

-- the item at a place, before those after it
pub item_at : {X : Type 0} (xs : List X) (k : ℕ) → k < length xs → (x : X) × (slice_get xs k ≡ Some x) × (drop k xs ≡ x ∷ drop (k + 1) xs)
item_at [] k l = absurd (omega arith)
item_at (x ∷ xs) zero l = (x, refl, refl)
item_at (x ∷ xs) (suc k) l =
    let (y, at, next) = item_at xs k (omega arith) in
    let after : suc (k + 1) ≡ suc k + 1 = omega arith in
    (y, at, next ∙ ap (λ (n : ℕ). y ∷ drop n (x ∷ xs)) after)
