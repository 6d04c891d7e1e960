-- Head lines that are whole.
use Rattle.std.specs.Prelude.{ℕ, ⊤, List, ◌≡◌, ◌<◌, ◌≤◌, Some, None, length}
use Rattle.desk_book.specs.Calls.{line_end}
use Rattle.desk_book.specs.declared.heads.Line.{Line}
use Rattle.desk_book.specs.declared.heads.Line.TheVariants as line
use Rattle.desk_book.specs.declared.limits.TheConstants.{HEAD_LIMIT}

-- where a head line is whole, this holds of its length
abbrev pub IfWhole : Line → (ℕ → Type 0) → Type 0
IfWhole (line.Whole n) P = P n
IfWhole line.Short P = ⊤
IfWhole line.None P = ⊤

-- the head line at the front of bytes
abbrev pub IsLineOf : List ℕ → Line → Type 0
IsLineOf bytes (line.Whole n) = line_end bytes ≡ Some n
IsLineOf bytes line.Short = (line_end bytes ≡ None) × (length bytes < HEAD_LIMIT)
IsLineOf bytes line.None = (line_end bytes ≡ None) × (HEAD_LIMIT ≤ length bytes)
