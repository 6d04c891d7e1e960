-- Exact amounts in pounds: `N` is a whole number, `N/D` is N divided by D.
use Rattle.std.specs.Prelude.{◌+◌, ◌*◌, ◌/◌, ◌%◌, ◌==◌, ◌&&◌, ◌++◌, ◌∷◌, ℕ, zero, suc, Bool, List, [], Option, None, Some, decimal, drop, position, take, if◌then◌else◌}
use Rattle.auction_terms.specs.Numbers.{number_of}
use Rattle.auction_terms.specs.declared.fractions.Fraction.{Fraction}

-- the greatest number up to a limit of which something holds; 0 if it holds of none
abbrev pub greatest_up_to : ℕ → (ℕ → Bool) → ℕ
greatest_up_to zero holds = 0
greatest_up_to (suc n) holds = if holds (suc n) then suc n else greatest_up_to n holds

-- the greatest common divisor of a number and another one, which isn't 0
abbrev pub gcd : ℕ → ℕ → ℕ
gcd a b = greatest_up_to b (λ d. (a % d == 0) && (b % d == 0))

-- the least common multiple of two numbers that aren't 0
abbrev pub lcm : ℕ → ℕ → ℕ
lcm a b = a * b / gcd a b

-- N over D, if both texts are numbers
abbrev pub over : Option ℕ → Option ℕ → Option Fraction
over (Some n) (Some d) = Some (record { numerator = n; denominator = d })
over _ _ = None

-- what a text gives: a number, or two with a slash between them
abbrev pub fraction_of : List ℕ → Option Fraction
fraction_of text =
    elim (position (λ byte. byte == 47) text) [ None ↦ over (number_of text) (Some 1) | Some k ↦ over (number_of (take k text)) (number_of (drop (k + 1) text)) ]

-- an amount in parts, of which a number make a pound
abbrev pub in_parts : ℕ → Fraction → ℕ
in_parts parts f = f.numerator * parts / f.denominator

-- a number of parts in pounds, as a fraction in lowest terms: whole, or with its denominator
abbrev pub fraction_text : ℕ → ℕ → List ℕ
fraction_text parts n =
    decimal (n / gcd n parts) ++ (if parts / gcd n parts == 1 then [] else 47 ∷ decimal (parts / gcd n parts))
