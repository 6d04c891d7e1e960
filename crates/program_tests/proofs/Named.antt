-- That names are printable and that they differ, by computing.
use Rattle.std.proofs.Common.{◌≡◌, ℕ, ◌≤◌, Bool, true, false, not, ◌&&◌, nat_le, List, [], ◌∷◌, length, refl, leb-true}
use Rattle.std.specs.Prelude.{bytes_eq, nat_lt}
use Rattle.std.specs.List.{AllByRecursion, IsDistinct, list_all}
use Rattle.std.proofs.lemmas.Bool.{and_parts, ltb-true}
use Rattle.std.proofs.lemmas.Map.Keys.{IsDistinct-cons}
use Rattle.program_rows.specs.Parts.{IsName}

abbrev pub is_name : List ℕ → Bool
is_name name = nat_lt 0 (length name) && list_all (λ b. nat_le 33 b && nat_le b 126) name

printable : (bytes : List ℕ) → list_all (λ b. nat_le 33 b && nat_le b 126) bytes ≡ true → AllByRecursion (λ b. (33 ≤ b) × (b ≤ 126)) bytes
printable [] h = tt
printable (b ∷ bytes) h =
    let parts = and_parts (nat_le 33 b && nat_le b 126) (list_all (λ b. nat_le 33 b && nat_le b 126) bytes) h in
    let ends = and_parts (nat_le 33 b) (nat_le b 126) parts.0 in
    ((leb-true 33 b ends.0, leb-true b 126 ends.1), printable bytes parts.1)

pub are_names : (names : List (List ℕ)) → list_all is_name names ≡ true → AllByRecursion IsName names
are_names [] h = tt
are_names (name ∷ names) h =
    let parts = and_parts (is_name name) (list_all is_name names) h in
    let both = and_parts (nat_lt 0 (length name)) (list_all (λ b. nat_le 33 b && nat_le b 126) name) parts.0 in
    ((ltb-true _ _ both.0, printable name both.1), are_names names parts.1)

abbrev pub differs_from : List ℕ → List (List ℕ) → Bool
differs_from name [] = true
differs_from name (other ∷ names) = not (bytes_eq name other) && differs_from name names

abbrev pub all_differ : List (List ℕ) → Bool
all_differ [] = true
all_differ (name ∷ names) = differs_from name names && all_differ names

not_true : (b : Bool) → not b ≡ true → b ≡ false
not_true true h = cc h
not_true false h = refl

others : (name : List ℕ) (names : List (List ℕ)) → differs_from name names ≡ true → AllByRecursion (λ y. bytes_eq name y ≡ false) names
others name [] h = tt
others name (other ∷ names) h =
    let parts = and_parts (not (bytes_eq name other)) (differs_from name names) h in
    (not_true (bytes_eq name other) parts.0, others name names parts.1)

pub distinct : (names : List (List ℕ)) → all_differ names ≡ true → IsDistinct bytes_eq names
unfolding IsDistinct
distinct [] h = tt
distinct (name ∷ names) h =
    let parts = and_parts (differs_from name names) (all_differ names) h in
    IsDistinct-cons bytes_eq name names (others name names parts.0) (distinct names parts.1)
