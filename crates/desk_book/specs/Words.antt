-- Words of replies and entries.
use Rattle.std.specs.Prelude.{ℕ, List, [], ◌∷◌, ◌++◌, Option, Some, None, decimal}

-- words, each behind a blank
abbrev pub spaced : List (List ℕ) → List ℕ
spaced [] = []
spaced (word ∷ words) = 32 ∷ word ++ spaced words

-- a number, or another word where there is none
abbrev pub number_or : List ℕ → Option ℕ → List ℕ
number_or none None = none
number_or none (Some n) = decimal n
