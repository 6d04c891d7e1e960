-- What all faults of a list are: just those that its items have, each by the accepted ones before it; and the accepted ones, by themselves, have none.
use Rattle.std.specs.Prelude.{◌≡◌, ◌≤◌, ◌+◌, ◌++◌, ◌↔◌, ℕ, List, [], ◌∷◌, length}
use Rattle.std.specs.List.{Contains}
use Rattle.auction_terms.specs.AllFaults.{accepted_with, all_faults}

-- the accepted ones: a list without the items that have a fault, numbered from n on, after those that were accepted before
unfoldable pub accepted_of : {R F : Type 0} → (ℕ → List R → R → List F) → ℕ → List R → List R → List R
accepted_of faults_of n accepted [] = accepted
accepted_of faults_of n accepted (item ∷ more) = accepted_of faults_of (n + 1) (accepted_with (faults_of n accepted item) accepted item) more

-- an item of the list has the fault, at its number and by the accepted ones before it
pub record IsOfItem {R F : Type 0} (faults_of : ℕ → List R → R → List F) (n : ℕ) (items : List R) (fault : F) : Type 0 where
  pub before : List R
  pub item : R
  pub after : List R
  pub items_are : items ≡ before ++ item ∷ after
  pub fault_is : Contains (faults_of (n + length before) (accepted_of faults_of n [] before) item) fault

-- an item without a fault has none at a lower number
abbrev pub StaysFaultless : {R F : Type 0} → (ℕ → List R → R → List F) → Type 0
StaysFaultless {R} {F} faults_of = (m n : ℕ) (before : List R) (item : R) → m ≤ n → faults_of n before item ≡ [] → faults_of m before item ≡ []

-- each fault of a list is an item's, and each fault of an item is one of the list; the accepted ones have none; and with one more item
-- after these the list has just that item's
pub record AreOfItems {R F : Type 0} (faults_of : ℕ → List R → R → List F) : Type 0 where
  pub each : (n : ℕ) (items : List R) (fault : F) → Contains (all_faults faults_of n [] items) fault ↔ IsOfItem faults_of n items fault
  pub none : (n : ℕ) (items : List R) → all_faults faults_of n [] (accepted_of faults_of n [] items) ≡ []
  pub alone : (n : ℕ) (items : List R) (item : R) →
      let accepted = accepted_of faults_of n [] items in
      all_faults faults_of n [] (accepted ++ item ∷ []) ≡ faults_of (n + length accepted) accepted item
