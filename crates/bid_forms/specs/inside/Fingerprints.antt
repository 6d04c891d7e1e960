-- Fingerprints of packages, an aid of the search for a repeated package. What a form is and what refuses it doesn't speak of them.
use Rattle.std.specs.Prelude.{◌+◌, ◌-◌, ◌*◌, ◌%◌, ◌^◌, ℕ, List, All, IsTrue, fold, length, nat_eq, slice_index}
use Rattle.std.specs.Int.{div_ceil}
use Rattle.std.specs.List.{list_any, range_with_len}
use Rattle.auction_terms.specs.declared.bids.Bid.{Bid}

-- a prime of 61 bits
abbrev pub prime : ℕ
prime = 2 ^ 61 - 1

-- the quantities of four categories, from a place on, as one number; 0 past the last category
abbrev pub four_from : List ℕ → ℕ → ℕ
four_from lots place =
    ((slice_index lots place * 2 ^ 15 + slice_index lots (place + 1)) * 2 ^ 15 + slice_index lots (place + 2)) * 2 ^ 15 + slice_index lots (place + 3)

-- the polynomial of these numbers so far, and of the next one, at a point
abbrev pub next_sum : ℕ → List ℕ → ℕ → ℕ → ℕ
next_sum point lots sum four = (sum * point + four_from lots (4 * four)) % prime

-- a number that two packages hardly ever share: the polynomial of their quantities at a multiplier, modulo the prime
abbrev pub fingerprint : ℕ → List ℕ → ℕ
fingerprint multiplier lots = fold (next_sum (multiplier % prime) lots) 0 (range_with_len 0 (div_ceil (length lots) 4))

-- the fingerprint of each bid's package is among the fingerprints
abbrev pub AreSeen : ℕ → List ℕ → List Bid → Type 0
AreSeen multiplier fingerprints bids = All (λ bid. IsTrue (list_any (nat_eq (fingerprint multiplier bid.package)) fingerprints)) bids
