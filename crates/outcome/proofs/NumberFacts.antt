-- The bids of a form that pass a test, one after the other.
use Rattle.std.proofs.Common.{◌≡◌, ℕ, suc, ◌+◌, ◌-◌, ◌<◌, ◌≤◌, Bool, false, cond, List, [], ◌∷◌, Option, Some, get_or, length, refl, sym, ap, ◌∙◌, arith, add-one}
use Rattle.std.specs.Prelude.{filter, find}
use Rattle.std.specs.List.{range_with_len}
use Rattle.std.specs.Option.{option_map_or}
use Rattle.std.proofs.lemmas.Option.{slice_get_read}
use Rattle.auction_terms.specs.declared.bids.Bid.{Bid}
use Rattle.auction_terms.specs.Allocations.{bid_at}

module _ (passes : Bid → Bool) (form : List Bid) where
  abbrev passes_at : ℕ → Bool
  passes_at number = option_map_or passes (bid_at form number) false

  at_place : (place : ℕ) (x : Bid) (b : Bool) → place < length form → x ≡ get_or form place x → b ≡ passes x → passes_at (place + 1) ≡ b
  at_place place x b l e h =
      ap (λ (n : ℕ). passes_at n) (add-one place)
      ∙ ap (λ (o : Option Bid). option_map_or passes o false) (slice_get_read form (length form) place x refl l e)
      ∙ sym h

  -- the first from a place on
  abbrev pub first_from : ℕ → Option ℕ
  first_from place = find passes_at (range_with_len (place + 1) (length form - place))

  pub first_next : (place : ℕ) (x : Bid) (b : Bool) → place < length form → x ≡ get_or form place x → b ≡ passes x
      → first_from place ≡ cond b (Some (place + 1)) (first_from (place + 1))
  first_next place x b l e h =
      let count : length form - place ≡ suc (length form - (place + 1)) = omega arith in
      ap (λ (n : ℕ). find passes_at (range_with_len (place + 1) n)) count
      ∙ ap (λ (t : Bool). cond t (Some (place + 1)) (first_from (place + 1))) (at_place place x b l e h)

  -- the numbers from a place on
  abbrev pub numbers_from : ℕ → List ℕ
  numbers_from place = filter passes_at (range_with_len (place + 1) (length form - place))

  pub numbers_next : (place : ℕ) (x : Bid) (b : Bool) → place < length form → x ≡ get_or form place x → b ≡ passes x
      → numbers_from place ≡ cond b ((place + 1) ∷ numbers_from (place + 1)) (numbers_from (place + 1))
  numbers_next place x b l e h =
      let count : length form - place ≡ suc (length form - (place + 1)) = omega arith in
      ap (λ (n : ℕ). filter passes_at (range_with_len (place + 1) n)) count
      ∙ ap (λ (t : Bool). cond t ((place + 1) ∷ numbers_from (place + 1)) (numbers_from (place + 1))) (at_place place x b l e h)

  pub numbers_end : (place : ℕ) → length form ≤ place → numbers_from place ≡ []
  numbers_end place l =
      let none : length form - place ≡ 0 = omega arith in
      ap (λ (n : ℕ). filter passes_at (range_with_len (place + 1) n)) none
