use Rattle.std.proofs.Common.{◌≡◌, ◌==◌, ◌+◌, ◌∷◌, ◌∙◌, ℕ, Bor, false, List, [], Option, Some, ap, arith, length, option_map, refl}
use Rattle.std.proofs.lemmas.List.Splits.{length-slice_split}
use Rattle.std.specs.List.{slice_split}
use Rattle.std.specs.Prelude.{count_by}
use Rattle.desk_book.specs.inside.Fields.{fields_left, no_field}
use Rattle.desk_book.proofs.fields.Fields.is_done.Goals as goal

some-field : (fields : List (List ℕ)) (n : ℕ) → length fields ≡ n + 1 → false ≡ no_field fields
some-field [] n e = absurd (omega arith)
some-field (field ∷ more) n e = refl

-- what is left of a line has a field
some-left : (fields : List (List ℕ)) (rest : Option (Bor (List ℕ))) (text : Bor (List ℕ))
    → fields ≡ fields_left (option_map (λ (s : Bor (List ℕ)). s.now) rest) → rest ≡ Some text → false ≡ no_field fields
some-left fields rest text view is =
    let all : fields ≡ slice_split (λ b. b == 32) text.now =
    view ∙ ap (λ (o : Option (Bor (List ℕ))). fields_left (option_map (λ (s : Bor (List ℕ)). s.now) o)) is in
    some-field fields (count_by (λ b. b == 32) text.now) (ap length all ∙ length-slice_split (λ b. b == 32) text.now)

pub returns-in-Some : goal.returns-in-Some
returns-in-Some c =
    some-left c.args.self.now c.self.inside.rest c.in-Some.field-0 (let v = c.self.view_is in cc) (let i = c.in-Some.is in cc)
