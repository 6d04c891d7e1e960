-- One digit more.
use Rattle.std.proofs.Common.{◌≡◌, ℕ, suc, ◌+◌, ◌-◌, ◌*◌, ◌^◌, ◌<◌, ◌≤◌, true, List, [], ◌∷◌, length, take, get_or, refl, ap, arith}
use Rattle.std.specs.List.{list_all}
use Rattle.std.specs.Str.Parse.{digits_value_after}
use Rattle.std.specs.Char.{digit_value, is_ascii_digit}
use Rattle.std.proofs.lemmas.List.{take_more}
use Rattle.std.proofs.lemmas.List.Sums.{AllPass-from_list_all}
use Rattle.std.proofs.lemmas.Bool.Decides.{nat_tests}
use Rattle.std.proofs.lemmas.Grind.{common_steps}
use Rattle.auction_terms.proofs.PowerFacts.{pow_above}
use Rattle.auction_terms.proofs.TokenFacts.{after-append}

pub ascii-range : (b : ℕ) → is_ascii_digit b ≡ true → (48 ≤ b) × (b ≤ 57) × (digit_value b ≡ b - 48)
ascii-range b h = (grind (arith, common_steps, nat_tests, h), grind (arith, common_steps, nat_tests, h), grind (arith, common_steps, nat_tests, h))

pub digit-at : (bs : List ℕ) (i : ℕ) → list_all is_ascii_digit bs ≡ true → i < length bs
    → (48 ≤ get_or bs i 0) × (get_or bs i 0 ≤ 57) × (digit_value (get_or bs i 0) ≡ get_or bs i 0 - 48)
digit-at bs i h lt = ascii-range (get_or bs i 0) (AllPass-from_list_all is_ascii_digit bs h i 0 lt)

pub fits : (v k : ℕ) → v < 10 ^ k → k ≤ 30 → v < 10 ^ 30
fits v k h le = let most = pow_above k 30 le in omega (arith, most, h)

pub after-next : (n : ℕ) (bs : List ℕ) (i : ℕ) → i < length bs
    → digits_value_after 10 n (take i bs) * 10 + digit_value (get_or bs i 0) ≡ digits_value_after 10 n (take (i + 1) bs)
after-next n bs i h = rw (take_more bs i 0 h, after-append n (take i bs) (get_or bs i 0 ∷ [])) refl

pub next-low : (v d c i : ℕ) → v < 10 ^ (c + i) → d ≤ 9 → v * 10 + d < 10 ^ (c + (i + 1))
next-low v d c i h le = let next : 10 ^ (c + (i + 1)) ≡ 10 ^ suc (c + i) = ap (λ (k : ℕ). 10 ^ k) (omega arith) in omega (arith, next, h)
