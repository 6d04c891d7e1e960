-- The entries of a selection's column.
use Rattle.std.proofs.Common.{◌≡◌, ℕ, ◌<◌, List, Option, Some, None, get_or, length, slice_get, slice_index, refl, sym, ap, ◌∙◌, ℤ}
use Rattle.std.proofs.lemmas.List.{length-map}
use Rattle.std.proofs.lemmas.Option.{slice_get-map, slice_get-get_or}
use Rattle.std.specs.Option.{option_map}
use Rattle.program_rows.specs.inside.Seen.{seen_entries}

pub length-seen : (numbers : Option (List ℕ)) (entries : List (ℕ × ℤ)) → length (seen_entries numbers entries) ≡ length entries
length-seen None entries = refl
length-seen (Some numbers) entries = length-map entries (λ (e : ℕ × ℤ). (slice_index numbers e.0, e.1))

pub own-entry : (numbers : Option (List ℕ)) (entries : List (ℕ × ℤ)) (place : ℕ) (d : ℕ × ℤ) → numbers ≡ None → place < length entries
    → slice_get (seen_entries numbers entries) place ≡ Some (get_or entries place d)
own-entry numbers entries place d none l = ap (λ (ns : Option (List ℕ)). slice_get (seen_entries ns entries) place) none ∙ slice_get-get_or entries place d l

pub numbered-entry : (numbers : Option (List ℕ)) (given : List ℕ) (entries : List (ℕ × ℤ)) (place n : ℕ) (d : ℕ × ℤ) → numbers ≡ Some given
    → place < length entries → n ≡ slice_index given (get_or entries place d).0
    → slice_get (seen_entries numbers entries) place ≡ Some (n, (get_or entries place d).1)
numbered-entry numbers given entries place n d some l at =
    let f : ℕ × ℤ → ℕ × ℤ = λ e. (slice_index given e.0, e.1) in
    ap (λ (ns : Option (List ℕ)). slice_get (seen_entries ns entries) place) some
    ∙ slice_get-map f entries place
    ∙ ap (option_map f) (slice_get-get_or entries place d l)
    ∙ ap (λ (k : ℕ). Some (k, (get_or entries place d).1)) (sym at)
