-- Entries of the current column: each place once, and sorted at its end.
use Rattle.std.proofs.Common.{◌≡◌, ◌≢◌, ℕ, suc, ◌<◌, ◌≤◌, Bool, true, false, List, [], ◌∷◌, ◌++◌, length, refl, sym, ◌∙◌, arith, ℤ, pos, get_or}
use Rattle.mps_reader.proofs.NameFacts.{all-push}
use Rattle.std.specs.Prelude.{◌==◌}
use Rattle.std.specs.List.{AllByRecursion, IsDistinct}
use Rattle.std.specs.List.Sorted.{IsPermutation, IsNonDecreasingBy}
use Rattle.std.proofs.lemmas.List.Sorted.{All-permutation}
use Rattle.std.proofs.lemmas.List.Elements.{All-from_recursion, recursion_from_All}
use Rattle.std.proofs.lemmas.Map.Keys.{IsDistinct-IsPermutation}
use Rattle.std.proofs.lemmas.Bool.{eqb-true, eqb-false, ne_eqb, eq-eqb}
use Rattle.program_rows.specs.Parts.{AreEntries}
use Rattle.mps_reader.specs.inside.Columns.{same_place, AreDistinctEntries}

flips : (x y : ℕ × ℤ) → same_place x y ≡ same_place y x
flips x y = by (x.0 == y.0) refl
  where
    by : (b : Bool) → (x.0 == y.0) ≡ b → (x.0 == y.0) ≡ (y.0 == x.0)
    by true h = h ∙ sym (eq-eqb y.0 x.0 (sym (eqb-true _ _ h)))
    by false h = h ∙ sym (ne_eqb y.0 x.0 (λ e. eqb-false _ _ h (sym e)))

later : (x : ℕ × ℤ) (xs : List (ℕ × ℤ)) → ((j : ℕ) (d : ℕ × ℤ) → j < length xs → x.0 ≤ (get_or xs j d).0)
    → AllByRecursion (λ y. same_place x y ≡ false) xs → AllByRecursion (λ y. x.0 < y.0) xs
later x [] up apart = tt
later x (y ∷ xs) up apart =
    let low : x.0 ≤ y.0 = up 0 y (omega arith) in
    let differ : x.0 ≢ y.0 = eqb-false _ _ apart.0 in
    (omega arith, later x xs (λ j d lt. up (suc j) d (omega arith)) apart.1)

-- entries that rise, each place once, are entries in row order
pub are-entries : (count : ℕ) (xs : List (ℕ × ℤ)) → IsNonDecreasingBy (λ e. e.0) xs → IsDistinct same_place xs
    → AllByRecursion (λ e. (e.0 < count) × (e.1 ≢ pos 0)) xs → AreEntries count xs
unfolding IsDistinct
are-entries count [] up apart inside = tt
are-entries count (x ∷ xs) up apart inside = (
  inside.0.0,
  inside.0.1,
  later x xs (λ j d lt. up 0 (suc j) d (omega arith) (omega arith)) apart.0,
  are-entries count xs
      (λ i j d le lt. up (suc i) (suc j) d (omega arith) (omega arith)) apart.1 inside.1,
)

-- a sort keeps what holds of each entry, and that each place comes once
pub sorted-entries : (count : ℕ) (xs ys : List (ℕ × ℤ)) → IsPermutation xs ys → IsNonDecreasingBy (λ e. e.0) ys
    → AreDistinctEntries count xs → AreEntries count ys
sorted-entries count xs ys moved up d =
    let inside = recursion_from_All (λ (e : ℕ × ℤ). (e.0 < count) × (e.1 ≢ pos 0)) ys
    (All-permutation (λ (e : ℕ × ℤ). (e.0 < count) × (e.1 ≢ pos 0)) xs ys moved
    (All-from_recursion (λ (e : ℕ × ℤ). (e.0 < count) × (e.1 ≢ pos 0)) xs d.inside)) in
    are-entries count ys up (IsDistinct-IsPermutation same_place flips xs ys moved d.distinct) inside

-- entries of fewer rows are entries of more
pub more-rows : (few many : ℕ) (xs : List (ℕ × ℤ)) → few ≤ many → AreEntries few xs → AreEntries many xs
more-rows few many [] le h = tt
more-rows few many (x ∷ xs) le h = (omega (arith, h.0), h.1, h.2, more-rows few many xs le h.3)

pub more-inside : (few many : ℕ) (xs : List (ℕ × ℤ)) → few ≤ many → AllByRecursion (λ e. (e.0 < few) × (e.1 ≢ pos 0)) xs
    → AllByRecursion (λ e. (e.0 < many) × (e.1 ≢ pos 0)) xs
more-inside few many [] le h = tt
more-inside few many (x ∷ xs) le h = ((omega (arith, h.0.0), h.0.1), more-inside few many xs le h.1)

-- ---- one entry more

distinct-push : (xs : List (ℕ × ℤ)) (p : ℕ) (v : ℤ) → IsDistinct same_place xs → AllByRecursion (λ e. (e.0 == p) ≡ false) xs
    → IsDistinct same_place (xs ++ (p, v) ∷ [])
unfolding IsDistinct
distinct-push [] p v h a = (tt, tt)
distinct-push (x ∷ xs) p v h a = (all-push (λ y. same_place x y ≡ false) xs (p, v) h.0 a.0, distinct-push xs p v h.1 a.1)

pub entries-push : (count : ℕ) (xs : List (ℕ × ℤ)) (p : ℕ) (v : ℤ) → p < count → v ≢ pos 0 → AllByRecursion (λ e. (e.0 == p) ≡ false) xs
    → AreDistinctEntries count xs → AreDistinctEntries count (xs ++ (p, v) ∷ [])
entries-push count xs p v low filled apart d = record {
  distinct = distinct-push xs p v d.distinct apart;
  inside = all-push (λ e. (e.0 < count) × (e.1 ≢ pos 0)) xs (p, v) d.inside (low, filled);
}

pub none-at-push : (xs : List (ℕ × ℤ)) (p q : ℕ) (v : ℤ) → p ≢ q → AllByRecursion (λ e. (e.0 == q) ≡ false) xs
    → AllByRecursion (λ e. (e.0 == q) ≡ false) (xs ++ (p, v) ∷ [])
none-at-push xs p q v differ h = all-push (λ e. (e.0 == q) ≡ false) xs (p, v) h (ne_eqb p q differ)
