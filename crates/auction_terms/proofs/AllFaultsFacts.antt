-- How lists of all faults grow.
use Rattle.std.proofs.Common.{◌≡◌, ◌<◌, ◌+◌, ◌∷◌, ◌++◌, ◌∙◌, ℕ, List, [], Option, Some, None, refl, sym, ap}
use Rattle.std.proofs.Common.{arith, append_assoc, append-nil, take, length, length-append, length-take, take_all}
use Rattle.std.specs.Option.{option_or}
use Rattle.auction_terms.specs.AllFaults.{accepted_with, all_faults}

-- what is kept of a list, with one more element
pub take-more : {X : Type 0} (most : ℕ) (xs : List X) (x : X) → length (take most xs) < most → take most (xs ++ x ∷ []) ≡ take most xs ++ x ∷ []
take-more most xs x few =
    let n = length-take most xs in
    let m = length-append xs (x ∷ []) in
    take_all most (xs ++ x ∷ []) (omega arith) ∙ ap (λ ys. ys ++ x ∷ []) (sym (take_all most xs (omega arith)))

-- what was found so far and what is still to be found, with the next item
pub found-more : {R F : Type 0} (faults_of : ℕ → List R → R → List F) (whole so_far : List F) (number : ℕ) (accepted ahead rest : List R) (item : R)
    → whole ≡ so_far ++ all_faults faults_of number accepted ahead → ahead ≡ item ∷ rest
    → whole ≡ (so_far ++ faults_of number accepted item) ++ all_faults faults_of (number + 1)
    (accepted_with (faults_of number accepted item) accepted item) rest
unfolding all_faults
found-more faults_of whole so_far number accepted ahead rest item is next =
    let parsed = rw next at is in
    parsed ∙ sym (append_assoc so_far (faults_of number accepted item) _)

-- and where no item is left
pub found-all : {R F : Type 0} (faults_of : ℕ → List R → R → List F) (whole so_far : List F) (number : ℕ) (accepted ahead : List R)
    → whole ≡ so_far ++ all_faults faults_of number accepted ahead → ahead ≡ [] → whole ≡ so_far
unfolding all_faults
found-all faults_of whole so_far number accepted ahead is none = (let parsed = rw none at is in parsed ∙ append-nil so_far)

pub option_or-assoc : {F : Type 0} (a b c : Option F) → option_or (option_or a b) c ≡ option_or a (option_or b c)
option_or-assoc None b c = refl
option_or-assoc (Some fault) b c = refl
