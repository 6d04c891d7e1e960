-- What is printed of prices, on worked values.
use Rattle.std.proofs.Common.{◌≡◌, ◌∷◌, [], refl, codes, true}
use Rattle.std.specs.Fmt.{digits}
use Rattle.auction_terms.specs.Fractions.{fraction_text, gcd, lcm}
use Rattle.outcome.specs.Pricing.{Priced, amount_text, sum_line}

-- three winners who pay 7.50 each: 15 parts of 2
abbrev three : Priced
three = record { parts = 2; prices = 15 ∷ 15 ∷ 15 ∷ []; by_rule = true }

half : amount_text 2 8 15 ≡ codes "8 15/2"
unfolding digits
half = refl

-- an amount that is whole
ten : amount_text 2 10 20 ≡ codes "10"
unfolding digits
ten = refl

-- 24 pounds are paid, and the exact sum is 22.50
sum_of_three : sum_line three (record { bidder = 1; bid = 1 } ∷ record { bidder = 2; bid = 1 } ∷ record { bidder = 3; bid = 1 } ∷ []) ≡ codes "sum 24 45/2\n"
unfolding digits
sum_of_three = refl

-- 10, 12.50 and 7.50: 31 pounds are paid, and the exact sum is the whole number 30
abbrev uneven : Priced
uneven = record { parts = 2; prices = 20 ∷ 25 ∷ 15 ∷ []; by_rule = true }

sum_of_uneven : sum_line uneven (record { bidder = 1; bid = 1 } ∷ record { bidder = 2; bid = 1 } ∷ record { bidder = 3; bid = 1 } ∷ []) ≡ codes "sum 31 30\n"
unfolding digits
sum_of_uneven = refl

-- in lowest terms
lowest : fraction_text 12 42 ≡ codes "7/2"
unfolding digits
lowest = refl

-- thirds and quarters are whole in twelfths
twelve : lcm 3 4 ≡ 12
twelve = refl

six : gcd 12 18 ≡ 6
six = refl
