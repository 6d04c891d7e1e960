-- What is wrong with a record or with what is in a field, in words.
use Rattle.std.specs.Prelude.{◌++◌, ℕ, List, codes, decimal}

-- so many fields, where others are wanted
abbrev pub count_cause : ℕ → ℕ → List ℕ
count_cause count wanted = decimal count ++ (codes " fields in place of " ++ decimal wanted)

-- a number outside its limits
abbrev pub limits_cause : ℕ → ℕ → List ℕ
limits_cause least greatest = codes "isn't between " ++ (decimal least ++ (codes " and " ++ decimal greatest))

-- more of these than there may be
abbrev pub most_cause : ℕ → List ℕ → List ℕ
most_cause most kinds = codes "more than " ++ (decimal most ++ kinds)
