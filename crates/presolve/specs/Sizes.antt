-- The bids of one form by the sizes of their packages.
use Rattle.std.specs.Prelude.{◌≡◌, ◌⊎◌, ◌<◌, ◌≤◌, ◌==◌, ℕ, Bool, false, if◌then◌else◌, List, count_by, AllPairs}
use Rattle.std.specs.Option.{option_map_or}
use Rattle.auction_terms.specs.declared.bids.Bid.{Bid}
use Rattle.auction_terms.specs.Packages.{Lots, fits, size}
use Rattle.auction_terms.specs.Allocations.{bid_at}

-- how many lots bid j of a form asks for
abbrev pub size_at : List Bid → ℕ → ℕ
size_at form j = option_map_or (λ x. size x.package) (bid_at form j) 0

-- the form has a bid j, and it fits
abbrev pub is_fitting : Lots → List Bid → ℕ → Bool
is_fitting lots form j = option_map_or (λ x. fits lots x.package) (bid_at form j) false

-- one bid comes before another or is the same: it has a smaller size, or the same size and not a higher number
abbrev pub IsUpTo : ℕ → ℕ → ℕ → ℕ → Type 0
IsUpTo size number other_size other_number = (size < other_size) ⊎ ((size ≡ other_size) × (number ≤ other_number))

-- the numbers of the bids that fit, each once and no other, by rising size, ties by number
pub record IsBySize (lots : Lots) (form : List Bid) (numbers : List ℕ) : Type 0 where
  pub fitting : (j : ℕ) → count_by (λ number. number == j) numbers ≡ (if is_fitting lots form j then 1 else 0)
  pub rising : AllPairs (λ j k. IsUpTo (size_at form j) j (size_at form k) k) numbers
