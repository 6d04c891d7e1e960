-- Faults of a text, as those of a whole input.
use Rattle.std.specs.Prelude.{◌≡◌, ℕ, List, [], ◌∷◌, Option, None, Result, Ok, Err, if◌then◌else◌, length, map, nat_lt, option_map, option_to_list}
use Rattle.auction_terms.specs.Judged.{Fault, fault_of_whole, reported_as}
use Rattle.auction_terms.specs.declared.limits.TheConstants.{TEXT_LIMIT}

-- each fault at its place, reported as another
abbrev pub judged_as : {F G : Type 0} → (F → G) → List (Fault F) → List (Fault G)
judged_as whole faults = map (λ at. reported_as (whole at.fault) at) faults

-- a fault, if there is one, which is of no field
abbrev pub fault_as : {F G : Type 0} → (F → G) → Option F → List (Fault G)
fault_as whole fault = option_to_list (option_map (λ f. fault_of_whole (whole f) None) fault)

-- the faults of a text; one above the limit has that fault alone
abbrev pub judged_of_sized : {F : Type 0} → F → List ℕ → List (Fault F) → List (Fault F)
judged_of_sized too_large text faults = if nat_lt TEXT_LIMIT (length text) then fault_of_whole too_large None ∷ [] else faults

-- the listed faults of a text agree with what is reported of it: there is none if the text is accepted, and else the reported one comes first
abbrev pub BeginWith : {A F : Type 0} → List (Fault F) → Result A F → Type 0
BeginWith faults (Ok x) = faults ≡ []
BeginWith {A} {F} faults (Err fault) = (first : Fault F) × (more : List (Fault F)) × (faults ≡ first ∷ more) × (first.fault ≡ fault)
