-- Products of numbers of 64 bits lie between -2^126 and 2^126.
use Rattle.std.proofs.Common.{◌≡◌, ℕ, ◌*◌, ◌^◌, ◌≤◌, ◌<◌, arith, ℤ, pos, negsuc, neg_ℤ, ◌≤ℤ◌, ◌<ℤ◌, ◌+ℤ◌}
use Rattle.std.specs.Prelude.{◌*ℤ◌, unsigned_abs}
use native.Mathlib.Nat.{mul-le-mul_left}
use Rattle.std.proofs.lemmas.Int.{ints, to_z-of_z, unsigned_abs-mul}
use mir.Syntax.{w16, w64, w128}
use mir.Val.{SFits, to_z, of_z}

pub abs-within : (n : ℤ) → SFits w64 n → unsigned_abs n ≤ 2 ^ 63
abs-within (pos n) f = let below : n < 2 ^ 63 = f.sfits in omega arith
abs-within (negsuc n) f = let below : n < 2 ^ 63 = f.sfits in omega arith

abs-product : (a b : ℤ) → SFits w64 a → SFits w64 b → unsigned_abs (a *ℤ b) ≤ 2 ^ 126
abs-product a b f g =
    let left = abs-within a f in
    let right : unsigned_abs a * unsigned_abs b ≤ unsigned_abs a * (2 ^ 63) = mul-le-mul_left (unsigned_abs a) (abs-within b g) in
    omega (arith, unsigned_abs-mul a b, left, right)

by-abs-low : (n : ℤ) (m : ℕ) → unsigned_abs n ≤ m → neg_ℤ (pos m) ≤ℤ n
by-abs-low (pos n) m h = omega (arith, ints)
by-abs-low (negsuc n) m h = omega (arith, ints)

by-abs-high : (n : ℤ) (m : ℕ) → unsigned_abs n ≤ m → n ≤ℤ pos m
by-abs-high (pos n) m h = omega (arith, ints)
by-abs-high (negsuc n) m h = omega (arith, ints)

-- the product as the code holds it
pub product_within : (a b product : ℤ) → SFits w64 a → SFits w64 b → SFits w128 product → product ≡ to_z w64 (of_z w64 a) *ℤ to_z w64 (of_z w64 b)
    → (neg_ℤ (pos (2 ^ 126)) ≤ℤ to_z w128 (of_z w128 product)) × (to_z w128 (of_z w128 product) ≤ℤ pos (2 ^ 126))
product_within a b product f g h is =
    let within = abs-product a b f g in
    rw (to_z-of_z w128 product h, is, to_z-of_z w64 a f, to_z-of_z w64 b g) (
      by-abs-low (a *ℤ b) (2 ^ 126) within,
      by-abs-high (a *ℤ b) (2 ^ 126) within,
    )

-- a factor up to 2^47 and a number of 16 bits: their product is 2^62 at most
abs-short : (n : ℤ) → SFits w16 n → unsigned_abs n ≤ 2 ^ 15
abs-short (pos n) f = let below : n < 2 ^ 15 = f.sfits in omega arith
abs-short (negsuc n) f = let below : n < 2 ^ 15 = f.sfits in omega arith

by-bounds : (n : ℤ) (m : ℕ) → neg_ℤ (pos m) ≤ℤ n → n ≤ℤ pos m → unsigned_abs n ≤ m
by-bounds n m low high = omega (arith, ints)

abs-short-product : (a b : ℤ) → neg_ℤ (pos (2 ^ 47)) ≤ℤ a → a ≤ℤ pos (2 ^ 47) → SFits w16 b → unsigned_abs (a *ℤ b) ≤ 2 ^ 62
abs-short-product a b low high f =
    let left : unsigned_abs a ≤ 2 ^ 47 = by-bounds a (2 ^ 47) low high in
    let right : unsigned_abs a * unsigned_abs b ≤ unsigned_abs a * (2 ^ 15) = mul-le-mul_left (unsigned_abs a) (abs-short b f) in
    omega (arith, unsigned_abs-mul a b, left, right)

pub short_low : (a b : ℤ) → neg_ℤ (pos (2 ^ 47)) ≤ℤ a → a ≤ℤ pos (2 ^ 47) → SFits w16 b → neg_ℤ (pos (2 ^ 62)) ≤ℤ (a *ℤ b)
short_low a b low high f = by-abs-low (a *ℤ b) (2 ^ 62) (abs-short-product a b low high f)

pub short_high : (a b : ℤ) → neg_ℤ (pos (2 ^ 47)) ≤ℤ a → a ≤ℤ pos (2 ^ 47) → SFits w16 b → (a *ℤ b) ≤ℤ pos (2 ^ 62)
short_high a b low high f = by-abs-high (a *ℤ b) (2 ^ 62) (abs-short-product a b low high f)

fits-by-abs : (n : ℤ) → unsigned_abs n ≤ 2 ^ 62 → SFits w64 n
fits-by-abs (pos n) h = let below : n < 2 ^ 63 = omega arith in record { sfits = below }
fits-by-abs (negsuc n) h = let below : n < 2 ^ 63 = omega arith in record { sfits = below }

pub short_product : (a b : ℤ) → neg_ℤ (pos (2 ^ 47)) ≤ℤ a → a ≤ℤ pos (2 ^ 47) → SFits w16 b → SFits w64 (a *ℤ b)
short_product a b low high f = fits-by-abs (a *ℤ b) (abs-short-product a b low high f)

pub small_sum : (a b : ℤ) → neg_ℤ (pos (2 ^ 62)) ≤ℤ a → a <ℤ pos (2 ^ 62) → neg_ℤ (pos (2 ^ 62)) ≤ℤ b → b ≤ℤ pos (2 ^ 62) → SFits w64 (a +ℤ b)
small_sum a b p q r s = fits (a +ℤ b) (omega (arith, ints)) (omega (arith, ints))
  where
    fits : (n : ℤ) → neg_ℤ (pos (2 ^ 63)) ≤ℤ n → n <ℤ pos (2 ^ 63) → SFits w64 n
    fits (pos n) l h = let below : n < 2 ^ 63 = omega (arith, ints) in record { sfits = below }
    fits (negsuc n) l h = let below : n < 2 ^ 63 = omega (arith, ints) in record { sfits = below }
