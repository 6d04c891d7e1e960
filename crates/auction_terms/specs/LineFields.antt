-- The fields of a line.
use Rattle.std.specs.Prelude.{ℕ, Bool, not, ◌||◌, List, [], length, ◌==◌, slice_index, slice_get, unwrap_or}
use Rattle.std.specs.List.{slice_split, filter}

-- whether a byte is white space, which separates the fields of a line: a space or a tab
abbrev pub is_space : ℕ → Bool
is_space b = (b == 32) || (b == 9)

-- the longest runs of bytes that are no white space
unfoldable pub fields : List ℕ → List (List ℕ)
fields line = filter (λ part. not (length part == 0)) (slice_split is_space line)

-- the fields of a line that has some
abbrev pub LineFields : Type 0
LineFields = List (List ℕ)

-- a line of a solution or of a certificate that says nothing: one that begins with #, or white space alone
abbrev pub is_skipped : List ℕ → Bool
is_skipped line = (slice_index line 0 == 35) || (length (fields line) == 0)

-- the field at a place, counted from 0; no bytes if there is none
abbrev pub field : ℕ → LineFields → List ℕ
field n fields = unwrap_or (slice_get fields n) []
