-- The lines of a text, part by part.
use Rattle.std.proofs.Common.{◌≡◌, ℕ, false, List, [], ◌∷◌, length, refl, ap, arith}
use Rattle.std.specs.Prelude.{◌==◌, map, if◌then◌else◌}
use Rattle.std.specs.List.{slice_split}
use Rattle.std.specs.Str.Lines.{strip_carriage_return}
use Rattle.std.proofs.lemmas.Bool.Decides.{nat_tests}
use Rattle.auction_terms.specs.Lines.{is_line_feed, without_empty_last, lines_of}

-- the parts are lines, less the one carriage return at their end; an empty last part is no line
abbrev pub lines_of_parts : List (List ℕ) → List (List ℕ)
lines_of_parts [] = []
lines_of_parts (last ∷ []) = if length last == 0 then [] else strip_carriage_return last ∷ []
lines_of_parts (part ∷ next ∷ more) = strip_carriage_return part ∷ lines_of_parts (next ∷ more)

stripped : (parts : List (List ℕ)) → map strip_carriage_return (without_empty_last parts) ≡ lines_of_parts parts
stripped [] = refl
stripped ([] ∷ []) = refl
stripped ((b ∷ part) ∷ []) = let some : (length (b ∷ part) == 0) ≡ false = grind (arith, nat_tests) in rw some refl
stripped ([] ∷ next ∷ more) = ap (λ (lines : List (List ℕ)). strip_carriage_return [] ∷ lines) (stripped (next ∷ more))
stripped ((b ∷ part) ∷ next ∷ more) = ap (λ (lines : List (List ℕ)). strip_carriage_return (b ∷ part) ∷ lines) (stripped (next ∷ more))

pub lines_are : (text : List ℕ) → lines_of text ≡ lines_of_parts (slice_split is_line_feed text)
lines_are text = stripped (slice_split is_line_feed text)
