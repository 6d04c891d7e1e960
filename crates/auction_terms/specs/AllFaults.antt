-- All faults of a list whose items are checked one after the other, each given the accepted ones before it.
use Rattle.std.specs.Prelude.{◌+◌, ◌++◌, Bool, ℕ, List, [], ◌∷◌, if◌then◌else◌}

-- the faults of the checks that are not passed, in their order
abbrev pub failed : {F : Type 0} → List (Bool × F) → List F
failed [] = []
failed (check ∷ more) = if check.0 then failed more else check.1 ∷ failed more

-- faults, and after them what is checked only where there is none of them
abbrev pub or_else : {F : Type 0} → List F → List F → List F
or_else [] rest = rest
or_else (fault ∷ more) rest = fault ∷ more

-- the accepted items, with a further one where it has no fault
abbrev pub accepted_with : {R F : Type 0} → List F → List R → R → List R
accepted_with [] accepted item = accepted ++ item ∷ []
accepted_with (fault ∷ more) accepted item = accepted

-- the faults of these items, numbered from n on, each given the accepted ones before it
unfoldable pub all_faults : {R F : Type 0} → (ℕ → List R → R → List F) → ℕ → List R → List R → List F
all_faults faults_of n accepted [] = []
all_faults faults_of n accepted (item ∷ more) =
    faults_of n accepted item ++ all_faults faults_of (n + 1) (accepted_with (faults_of n accepted item) accepted item) more
