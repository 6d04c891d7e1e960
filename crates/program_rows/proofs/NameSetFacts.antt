-- A name at a guessed place.
use Rattle.std.proofs.Common.{nat_lt, lt-ltb, ◌≡◌, ℕ, ◌+◌, ◌<◌, Bool, true, false, List, [], ◌∷◌, Option, Some, None, drop}
use Rattle.std.proofs.Common.{fold, length, map, slice_get, sym, ap, ◌∙◌, arith}
use Rattle.std.specs.Prelude.{bytes_eq, position}
use Rattle.std.specs.Option.{option_map, option_map_or}
use Rattle.std.specs.List.{list_any, position_or_len, IsDistinct}
use Rattle.std.proofs.lemmas.Bool.{cond-true}
use Rattle.std.proofs.lemmas.List.{at_drop_more}
use Rattle.std.proofs.lemmas.Map.Keys.{any_passes_from_place}
use Rattle.std.proofs.lemmas.Option.{get_or_from_slice_get, slice_get_within}
use denote.Ref.{Bor}
use Rattle.program_rows.proofs.EachFacts.{each_map}
use Rattle.program_rows.proofs.LookupFacts.{guessed}
use Rattle.program_rows.proofs.NamedItemFacts.{stands}

distinct_bytes : (ks : List (Bor (List ℕ))) → IsDistinct (λ a b. bytes_eq a.now b.now) ks → IsDistinct bytes_eq (map (λ k. k.now) ks)
unfolding IsDistinct
distinct_bytes [] h = tt
distinct_bytes (k ∷ ks) h = (each_map (λ other. bytes_eq k.now other ≡ false) (λ (other : Bor (List ℕ)). other.now) ks h.0, distinct_bytes ks h.1)

module _ (name : List ℕ) where
  abbrev is : Bor (List ℕ) → Bool
  is other = bytes_eq name other.now

  abbrev IsAt : List (Bor (List ℕ)) → ℕ → Type 0
  IsAt ks i = option_map_or is (slice_get ks i) false ≡ true

  -- if names differ, a place that has the name is its place
  pub is_place : (ks : List (Bor (List ℕ))) (i : ℕ) → IsDistinct (λ a b. bytes_eq a.now b.now) ks → IsAt ks i
      → (Some i ≡ position is ks) × (true ≡ list_any is ks) × (i < length ks)
  is_place ks i d h =
      let s = stands is (slice_get ks i) h in
      let here = guessed (λ (k : Bor (List ℕ)). k.now) name ks i s.0.now (distinct_bytes ks d)
      (ap (λ (o : Option (Bor (List ℕ))). option_map (λ k. k.now) o) s.1) s.2 in
      let inside = slice_get_within ks i s.0 s.1 in
      let less : nat_lt (position_or_len is ks) (length ks) ≡ true = lt-ltb (position_or_len is ks) (length ks) (omega arith) in (
        ap (λ (n : ℕ). Some n) here ∙ sym (cond-true (nat_lt (position_or_len is ks) (length ks)) (Some (position_or_len is ks)) None less),
        sym (any_passes_from_place is ks i s.0 s.1 s.2),
        inside,
      )

-- one item more is folded
pub folds_on : {A : Type 0} (f : A → List ℕ → A) (a : A) (names : List (List ℕ)) (i : ℕ) (name : List ℕ) → slice_get names i ≡ Some name
    → fold f a (drop i names) ≡ fold f (f a name) (drop (i + 1) names)
folds_on f a names i name e =
    at_drop_more (fold f a) names i name (slice_get_within names i name e)
    ∙ ap (λ (n : List ℕ). fold f (f a n) (drop (i + 1) names)) (get_or_from_slice_get names i name name e)
