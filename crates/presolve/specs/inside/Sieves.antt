-- The sieve of a form's rivals: for each number that a rival has, bitsets of those that have at most so much.
use Rattle.std.specs.Prelude.{◌≡◌, ◌-◌, ◌/◌, ◌%◌, ◌^◌, ◌<◌, ◌≤◌, ℕ, ℤ, true, List, length, slice_index, slice_index_or, All}
use Rattle.std.specs.Int.{bit_at, div_ceil, saturate_unsigned, w64}
use Rattle.presolve.specs.declared.order.SizedBid.{SizedBid}
use Rattle.presolve.specs.declared.sieve.Level.{Level}
use Rattle.presolve.specs.declared.sieve.Sieve.{Sieve}
use Rattle.presolve.specs.inside.Sizes.{beats}

-- the bit of place i is set
abbrev pub IsMarked : List ℕ → ℕ → Type 0
IsMarked words i = bit_at (slice_index words (i / 64)) (i % 64) ≡ 1

-- how far a net stays below the greatest number of 64 bits; all below 0 stay as far
abbrev pub shortfall : ℤ → ℕ
shortfall net = 2 ^ 64 - 1 - saturate_unsigned w64 net

-- the first numbers of a sorted list, as many as a count says, are lower than a given number, and the others are not
pub record AreLower (sorted : List ℕ) (number count : ℕ) : Type 0 where
  pub within : count ≤ length sorted
  pub lower : (k : ℕ) → k < count → slice_index sorted k < number
  pub others : (k : ℕ) → count ≤ k → k < length sorted → number ≤ slice_index sorted k

-- a rank for each number, not lower for a greater one
pub record AreRanked (numbers ranks : List ℕ) : Type 0 where
  pub count : length ranks ≡ length numbers
  pub rising : (i k : ℕ) → i < length numbers → k < length numbers → slice_index numbers i ≤ slice_index numbers k → slice_index ranks i ≤ slice_index ranks k

-- a level for each rank, on which the places are marked whose rank stands so to it
pub record AreLevels (Stands : ℕ → ℕ → Type 0) (ranks : List ℕ) (levels : List Level) : Type 0 where
  pub within : All (λ rank. rank < length levels) ranks
  pub long : All (λ level. length level.words.items ≡ div_ceil (length ranks) 64) levels
  pub marks : (i r : ℕ) (d : Level) → i < length ranks → r < length levels → Stands (slice_index ranks i) r → IsMarked (slice_index_or levels r d).words.items i

-- a rank of each number, and the levels of the places of each rank and lower ones
pub record AreSieved (numbers : List ℕ) (sieve : Sieve) : Type 0 where
  pub ranked : AreRanked numbers sieve.ranks.items
  pub levels : AreLevels (λ r s. r ≤ s) sieve.ranks.items sieve.levels.items

-- the places of the rivals that beat the bid are marked
abbrev pub Sifts : List SizedBid → SizedBid → List ℕ → Type 0
Sifts rivals x words = (i : ℕ) (d : SizedBid) → i < length rivals → beats x (slice_index_or rivals i d) ≡ true → IsMarked words i

-- the rival at a place beats the bid
abbrev pub BeatsAt : List SizedBid → SizedBid → ℕ → Type 0
BeatsAt rivals x place = (place < length rivals) × ((d : SizedBid) → beats x (slice_index_or rivals place d) ≡ true)

-- a place has a rank, and the rank a level
pub record HasPlace (place : ℕ) (sieve : Sieve) : Type 0 where
  pub ranked : place < length sieve.ranks.items
  pub level : slice_index sieve.ranks.items place < length sieve.levels.items

-- each level has so many words at least
abbrev pub HasWords : ℕ → Sieve → Type 0
HasWords words sieve = All (λ level. words ≤ length level.words.items) sieve.levels.items

-- the level of each rival's rank sifts those that beat it
pub record IsSieve (rivals : List SizedBid) (sieve : Sieve) : Type 0 where
  pub places : (k : ℕ) → k < length rivals → HasPlace k sieve
  pub long : HasWords (div_ceil (length rivals) 64) sieve
  pub sifts : (k : ℕ) (d : SizedBid) (e : Level) → k < length rivals
      → Sifts rivals (slice_index_or rivals k d) (slice_index_or sieve.levels.items (slice_index sieve.ranks.items k) e).words.items
