-- A line has no more names than bytes, and one.
use Rattle.std.proofs.Common.{◌≤◌, Bool, true, false, ℕ, suc, List, [], length, arith}
use Rattle.std.specs.Prelude.{◌==◌, codes, if◌then◌else◌}
use Rattle.std.specs.List.{slice_split}
use Rattle.std.proofs.lemmas.List.Splits.{length-slice_split}
use Rattle.std.proofs.lemmas.List.Sums.{count_by-le-length}
use Rattle.std.specs.Str.{bytes_eq}
use Rattle.auction_terms.specs.GroupNames.{names_in}

pub names-within : (line : List ℕ) → length (names_in line) ≤ suc (length line)
names-within line = by (bytes_eq line (codes "-"))
  where
    by : (b : Bool) → length (if b then [] else slice_split (λ b. b == 43) line) ≤ suc (length line)
    by true = omega arith
    by false = omega (arith, length-slice_split (λ b. b == 43) line, count_by-le-length (λ b. b == 43) line)
