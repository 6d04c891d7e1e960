-- Where texts count so much each: the text with a number of all, and how much is counted.
use Rattle.std.proofs.Common.{◌≡◌, ◌≤◌, ◌<◌, ◌+◌, ◌-◌, ◌∷◌, ℕ, List, Option, None, Some, ap}
use Rattle.std.proofs.Common.{arith, inl, inr, refl}
use Rattle.std.proofs.lemmas.Bool.{cases_Bool}
use Rattle.std.proofs.lemmas.Bool.Decides.{leb_tells}
use Rattle.std.specs.Prelude.{if◌then◌else◌, option_map}
use Rattle.std.specs.Str.{bytes_eq}
use Rattle.auction_input.specs.Parts.{Part, name_of}
use Rattle.auction_input.specs.Places.{located, parts_counted}
use Rattle.auction_input.specs.inside.Places.{is_counted}
use Rattle.auction_input.specs.declared.part_kind.PartKind.{PartKind}
use Rattle.auction_input.specs.declared.places.Spot.{Spot}

-- a spot among texts after so many others
abbrev pub shifted : ℕ → Option Spot → Option Spot
shifted k found = option_map (λ (at : Spot). record { text = at.text + k; number = at.number }) found

abbrev spot : ℕ → ℕ → Spot
spot text number = record { text = text; number = number }

pub shifted-none : (found : Option Spot) → found ≡ shifted 0 found
shifted-none None = refl
shifted-none (Some at) = (let e : at.text ≡ at.text + 0 = omega arith in ap (λ (t : ℕ). Some (record at { text = t })) e)

shifted-more : (k : ℕ) (found : Option Spot)
    → shifted k (option_map (λ (at : Spot). record { text = at.text + 1; number = at.number }) found) ≡ shifted (k + 1) found
shifted-more k None = refl
shifted-more k (Some at) = (let e : at.text + 1 + k ≡ at.text + (k + 1) = omega arith in ap (λ (t : ℕ). Some (record at { text = t })) e)

-- the number is among those of the next text
pub located-here : (k n count : ℕ) (more : List ℕ) → n ≤ count → shifted k (located (count ∷ more) n) ≡ Some (record { text = k; number = n })
located-here k n count more within = elim (leb_tells n count) [
  | inl (is, _) ↦ rw is
      (let e : 0 + k ≡ k = omega arith in ap (λ (t : ℕ). Some (spot t n)) e)
  | inr (_, above) ↦ absurd (omega arith)
]

-- or after them
pub located-after : (k n count : ℕ) (more : List ℕ) → count < n → shifted k (located (count ∷ more) n) ≡ shifted (k + 1) (located more (n - count))
located-after k n count more above =
    elim (leb_tells n count) [ inl (_, within) ↦ absurd (omega arith) | inr (is, _) ↦ rw is (shifted-more k (located more (n - count))) ]

-- one part more
pub counted-more : (kind : Option PartKind) (p : Part) (parts : List Part)
    → parts_counted kind (p ∷ parts) ≡ (if is_counted kind p.name then 1 else 0) + parts_counted kind parts
counted-more None p parts = (omega arith)
counted-more (Some kind) p parts = elim (cases_Bool (bytes_eq p.name (name_of kind))) [ inl is ↦ rw is (omega arith) | inr other ↦ rw other (omega arith) ]
