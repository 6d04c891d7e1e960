-- The names in a line of groups: joined by plus signs, a dash for none.
use Rattle.std.specs.Prelude.{◌==◌, ℕ, List, [], Option, None, Some}
use Rattle.std.specs.List.{slice_split}

-- the names in what is left of a line
abbrev pub names_left : Option (List ℕ) → List (List ℕ)
names_left None = []
names_left (Some text) = slice_split (λ b. b == 43) text
