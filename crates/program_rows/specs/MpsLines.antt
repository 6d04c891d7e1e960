-- What a line of an MPS text is.
use Rattle.std.specs.Prelude.{ℕ, not, ◌||◌, ◌&&◌, nat_le, List, length, drop, ◌==◌, if◌then◌else◌, slice_index}
use Rattle.std.specs.List.{list_all}
use Rattle.auction_terms.specs.LineFields.{field, fields, is_space}

-- what a line of an MPS text is
pub data Line : Type 0 where
  -- a comment, or a line of white space alone
  Skipped : Line
  -- it has a byte that no text has: text is tab and 0x20 to 0x7E
  Unprintable : Line
  -- the word of a header, and its further fields
  Header : (word : List ℕ) (more : List (List ℕ)) → Line
  -- the fields of a data line
  Data : (fields : List (List ℕ)) → Line

-- what the bytes of a line are: skipped, unprintable, data if they begin with white space, or else a header
unfoldable pub line_of : List ℕ → Line
line_of bytes =
    if (slice_index bytes 0 == 42) || (length (fields bytes) == 0) then Skipped
    else (if not (list_all (λ b. (b == 9) || (nat_le 32 b && nat_le b 126)) bytes) then Unprintable
    else (if is_space (slice_index bytes 0) then Data (fields bytes)
    else Header (field 0 (fields bytes)) (drop 1 (fields bytes))))
