-- All faults of a list are those of its items, and the accepted ones have none.
use Rattle.std.proofs.Common.{◌≡◌, ◌≤◌, ◌+◌, ◌∷◌, ◌++◌, ◌∙◌, Bool, ℕ, List, [], ap, append_assoc, append-nil, arith, inl}
use Rattle.std.proofs.Common.{inr, length, length-append, map, refl, subst, sym}
use Rattle.std.specs.Prelude.{true, false, Some, None, if◌then◌else◌}
use Rattle.std.specs.List.{Contains}
use Rattle.std.proofs.lemmas.List.Elements.{Contains-append_cases, Contains-append_left, Contains-append_right}
use Rattle.auction_terms.specs.Accepted.{AreOfItems, IsOfItem, StaysFaultless, accepted_of}
use Rattle.auction_terms.specs.AllFaults.{accepted_with, all_faults, or_else}
use Rattle.auction_terms.specs.FirstFault.{first_failed}

-- where a list joined of two is empty, both are
pub both-none : {X : Type 0} (xs ys : List X) → xs ++ ys ≡ [] → (xs ≡ []) × (ys ≡ [])
both-none [] ys e = (refl, e)
both-none (x ∷ xs) ys e = cc e

pub or_else-none : {X : Type 0} (xs ys : List X) → or_else xs ys ≡ [] → (xs ≡ []) × (ys ≡ [])
or_else-none [] ys e = (refl, e)
or_else-none (x ∷ xs) ys e = cc e

module _ {R F : Type 0} (faults_of : ℕ → List R → R → List F) where
  -- faults, and accepted ones, of a list joined of two
  faults-append : (n : ℕ) (accepted xs ys : List R)
      → all_faults faults_of n accepted (xs ++ ys) ≡ all_faults faults_of n accepted xs ++ all_faults faults_of (n + length xs)
      (accepted_of faults_of n accepted xs) ys
  unfolding all_faults accepted_of
  faults-append n accepted [] ys = (let e : n + 0 ≡ n = omega arith in rw e refl)
  faults-append n accepted (x ∷ xs) ys =
      let found = faults_of n accepted x in
      let e : n + 1 + length xs ≡ n + length (x ∷ xs) = omega arith in
      let rest = faults-append (n + 1) (accepted_with found accepted x) xs ys in
      ap (λ fs. found ++ fs) (rw e at rest) ∙ sym (append_assoc found _ _)

  -- where there is no fault, all are accepted
  all-accepted : (n : ℕ) (accepted xs : List R) → all_faults faults_of n accepted xs ≡ [] → accepted_of faults_of n accepted xs ≡ accepted ++ xs
  unfolding all_faults accepted_of
  all-accepted n accepted [] none = sym (append-nil accepted)
  all-accepted n accepted (x ∷ xs) none =
      let e = both-none (faults_of n accepted x) _ none in
      let first = e.0 in
      let rest : all_faults faults_of (n + 1) (accepted ++ x ∷ []) xs ≡ [] = rw first at e.1 in
      rw first (all-accepted (n + 1) (accepted ++ x ∷ []) xs rest ∙ append_assoc accepted (x ∷ []) xs)

  -- what is found after the accepted ones
  record IsAfter (n : ℕ) (accepted items : List R) (fault : F) : Type 0 where
    before : List R
    item : R
    after : List R
    items_are : items ≡ before ++ item ∷ after
    fault_is : Contains (faults_of (n + length before) (accepted_of faults_of n accepted before) item) fault

  from-accepted : (n : ℕ) (accepted items : List R) (fault : F) → Contains (all_faults faults_of n accepted items) fault → IsAfter n accepted items fault
  unfolding all_faults accepted_of
  from-accepted n accepted [] fault has = absurd (let low = has.1 in omega arith)
  from-accepted n accepted (x ∷ xs) fault has =
      let found = faults_of n accepted x in
      let next = accepted_with found accepted x in
      elim (Contains-append_cases found (all_faults faults_of (n + 1) next xs) fault has) [
        | inl here ↦ record { before = []; item = x; after = xs; items_are = refl; fault_is = (let e : n + 0 ≡ n = omega arith in rw e here) }
        | inr later ↦
            let it = from-accepted (n + 1) next xs fault later in
            let e : n + 1 + length it.before ≡ n + length (x ∷ it.before) = omega arith in
            record { before = x ∷ it.before; item = it.item; after = it.after; items_are = ap (λ ys. x ∷ ys) it.items_are; fault_is = rw (← e) it.fault_is }
      ]

  each-fault : (n : ℕ) (items : List R) (fault : F) → Contains (all_faults faults_of n [] items) fault → IsOfItem faults_of n items fault
  each-fault n items fault has =
      let it = from-accepted n [] items fault has in
      record { before = it.before; item = it.item; after = it.after; items_are = it.items_are; fault_is = it.fault_is }

  fault-of-item : (n : ℕ) (items : List R) (fault : F) → IsOfItem faults_of n items fault → Contains (all_faults faults_of n [] items) fault
  unfolding all_faults
  fault-of-item n items fault it =
      let accepted = accepted_of faults_of n [] it.before in
      let own = faults_of (n + length it.before) accepted it.item in
      let rest = all_faults faults_of (n + length it.before + 1) (accepted_with own accepted it.item) it.after in
      let whole : all_faults faults_of n [] items ≡ all_faults faults_of n [] it.before ++ (own ++ rest) =
      rw it.items_are (faults-append n [] it.before (it.item ∷ it.after)) in
      subst (λ fs. Contains fs fault) (sym whole) (Contains-append_right (all_faults faults_of n [] it.before) (own ++ rest) fault
      (Contains-append_left own rest fault it.fault_is))

  module _ (stays : StaysFaultless faults_of) where
    -- items after accepted ones without a fault, whose numbers are as high at least
    none-of-accepted : (n k : ℕ) (accepted items : List R) → n + length accepted ≤ k → all_faults faults_of n [] accepted ≡ []
        → all_faults faults_of n [] (accepted_of faults_of k accepted items) ≡ []
    unfolding all_faults accepted_of
    none-of-accepted n k accepted [] low none = none
    none-of-accepted n k accepted (x ∷ xs) low none = by (faults_of k accepted x) refl (λ next. none-of-accepted n (k + 1) next xs)
      where
        by : (own : List F) → faults_of k accepted x ≡ own
            → ((next : List R) → n + length next ≤ k + 1 → all_faults faults_of n [] next ≡ [] → all_faults faults_of n []
            (accepted_of faults_of (k + 1) next xs) ≡ [])
            → all_faults faults_of n [] (accepted_of faults_of (k + 1) (accepted_with own accepted x) xs) ≡ []
        by (f ∷ fs) is more = more accepted (omega arith) none
        by [] is more =
            let same = all-accepted n [] accepted none in
            let first : faults_of (n + length accepted) accepted x ≡ [] = stays (n + length accepted) k accepted x low is in
            let both = faults-append n [] accepted (x ∷ []) in
            let count = length-append accepted (x ∷ []) in
            more (accepted ++ x ∷ []) (omega arith) (rw (none, same, first) at both)

    pub are-of-items : AreOfItems faults_of
    unfolding all_faults
    are-of-items = record {
      each = λ n items fault. (each-fault n items fault, fault-of-item n items fault);
      none = λ n items. none-of-accepted n n [] items (omega arith) refl;
      alone = λ n items item.
          let accepted = accepted_of faults_of n [] items in
          let none = none-of-accepted n n [] items (omega arith) refl in
          let same = all-accepted n [] accepted none in
          let both = faults-append n [] accepted (item ∷ []) in
          rw (none, same) at both ∙ append-nil (faults_of (n + length accepted) accepted item);
    }

-- what is found by others that have no fault where these have none
pub all-alike : {R F : Type 0} (faults_of others_of : ℕ → List R → R → List F)
    → ((n : ℕ) (before : List R) (item : R) → faults_of n before item ≡ [] → others_of n before item ≡ [])
    → (n : ℕ) (accepted items : List R) → all_faults faults_of n accepted items ≡ [] → all_faults others_of n accepted items ≡ []
unfolding all_faults
all-alike faults_of others_of same n accepted [] none = refl
all-alike faults_of others_of same n accepted (x ∷ xs) none =
    let both = both-none (faults_of n accepted x) _ none in
    let first = both.0 in
    let own = same n accepted x first in
    let rest : all_faults faults_of (n + 1) (accepted ++ x ∷ []) xs ≡ [] = rw first at both.1 in
    rw own (all-alike faults_of others_of same (n + 1) (accepted ++ x ∷ []) xs rest)

-- ---------- checks whose tests don't look at the number ----------

-- the tests of checks, without their faults
abbrev pub tests_of : {F : Type 0} → List (Bool × F) → List Bool
tests_of checks = map (λ check. check.0) checks

-- checks with the same tests fail alike
pub fail-alike : {F : Type 0} (some others : List (Bool × F)) → tests_of some ≡ tests_of others → first_failed some ≡ None → first_failed others ≡ None
fail-alike [] [] same none = refl
fail-alike [] (other ∷ more) same none = cc same
fail-alike (check ∷ some) [] same none = cc same
fail-alike {F} (check ∷ some) (other ∷ others) same none =
    let head : check.0 ≡ other.0 = cc in
    let rest : tests_of some ≡ tests_of others = cc in
    by check.0 other.0 head (λ passed. fail-alike some others rest passed) none
  where
    by : (a b : Bool) → a ≡ b → (first_failed some ≡ None → first_failed others ≡ None)
        → (if a then first_failed some else Some check.1) ≡ None → (if b then first_failed others else Some other.1) ≡ None
    by true true is more none = more none
    by true false is more none = cc is
    by false b is more none = cc none
