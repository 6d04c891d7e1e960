-- A text has no more lines than bytes.
use Rattle.std.proofs.Common.{◌≡◌, ℕ, suc, ◌≤◌, true, false, cond, List, [], ◌∷◌, length, refl, ap, subst, arith}
use Rattle.std.specs.List.{slice_split, onto_first}
use Rattle.std.specs.Str.Lines.{strip_carriage_return}
use Rattle.std.proofs.lemmas.List.{length-map}
use Rattle.auction_terms.specs.Lines.{is_line_feed, lines_of, without_empty_last}

pub split-some : (xs : List ℕ) → (part : List ℕ) × (parts : List (List ℕ)) × (slice_split is_line_feed xs ≡ part ∷ parts)
split-some [] = ([], [], refl)
split-some (x ∷ xs) =
    let more = split-some xs in
    elim (is_line_feed x) as (λ b. (part : List ℕ) × (parts : List (List ℕ)) ×
    (cond b ([] ∷ slice_split is_line_feed xs) (onto_first x (slice_split is_line_feed xs)) ≡ part ∷ parts)) [
      | true ↦ ([], slice_split is_line_feed xs, refl)
      | false ↦ (x ∷ more.0, more.1, ap (onto_first x) more.2)
    ]

longer : (x : ℕ) (part : List ℕ) (parts : List (List ℕ))
    → length (without_empty_last (onto_first x (part ∷ parts))) ≤ suc (length (without_empty_last (part ∷ parts)))
longer x [] [] = omega arith
longer x (b ∷ part) [] = omega arith
longer x [] (p ∷ parts) = omega arith
longer x (b ∷ part) (p ∷ parts) = omega arith

parts-within : (xs : List ℕ) → length (without_empty_last (slice_split is_line_feed xs)) ≤ length xs
parts-within [] = omega arith
parts-within (x ∷ xs) =
    let more = split-some xs in
    let within : length (without_empty_last (more.0 ∷ more.1)) ≤ length xs =
    subst (λ ps. length (without_empty_last ps) ≤ length xs) more.2 (parts-within xs) in
    let step = longer x more.0 more.1 in
    elim (is_line_feed x) as (λ b. length (without_empty_last (cond b ([] ∷ slice_split is_line_feed xs)
    (onto_first x (slice_split is_line_feed xs)))) ≤ suc (length xs)) [
      | true ↦ rw (more.2) (omega arith)
      | false ↦ rw (more.2) (omega arith)
    ]

pub lines-within : (text : List ℕ) → length (lines_of text) ≤ length text
lines-within text =
    let same = length-map (without_empty_last (slice_split is_line_feed text)) strip_carriage_return in
    let within = parts-within text in
    omega arith
