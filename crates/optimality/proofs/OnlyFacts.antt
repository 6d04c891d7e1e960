-- A certificate judged after the splits from points bounds all others.
use Rattle.std.proofs.Common.{◌≡◌, ℕ, zero, suc, ◌+◌, Bool, true, false, cond, List, [], ◌∷◌, ◌++◌, Some, slice_get}
use Rattle.std.proofs.Common.{slice_index_or, drop, refl, sym, ap, ap₂, subst, ◌∙◌, arith, map, inl, inr, ⊎_elim, ℤ, pos, neg_ℤ, ◌+ℤ◌, ◌≤ℤ◌}
use Rattle.std.specs.Prelude.{◌&&◌, ◌⊎◌, Contains, if◌then◌else◌}
use Rattle.std.specs.List.{AllByRecursion}
use Rattle.std.specs.Option.{option_map}
use Rattle.std.proofs.lemmas.Int.{ints}
use Rattle.std.proofs.lemmas.List.{reverse-append}
use Rattle.std.proofs.lemmas.List.Elements.{recursion_from_All}
use Rattle.program_rows.specs.declared.column.Bounds.{Bounds}
use Rattle.program_rows.specs.declared.column.Bounds.TheVariants.{ZeroOrOne, Zero, One}
use Rattle.program_rows.specs.Program.{Table, TableColumn}
use Rattle.program_rows.specs.Points.{AreAllowed, IsPoint, allows, objective, sum_at_one}
use Rattle.optimality.specs.Branches.{cuts_above}
use Rattle.optimality.specs.Certificates.{Cut, Form, side}
use Rattle.optimality.specs.inside.Certificates.{form_sum}
use Rattle.optimality.specs.OnlyPoints.{is_zero_or_one, distance, free_ones, all_but, all_others, one_above, ShownIsOnly}
use Rattle.optimality.proofs.BoundFacts.{IsWithin, negated-sum, shown-within}
use Rattle.optimality.proofs.BranchFacts.{cuts-last}

-- ---------- how far values are from others ----------

abbrev differ : Bool → Bool → ℕ
differ true false = 1
differ false true = 1
differ _ _ = 0

-- at how many free columns
abbrev apart : List TableColumn → List Bool → List Bool → ℕ
apart (c ∷ cs) (v ∷ vs) (x ∷ xs) = cond (is_zero_or_one c.bounds) (differ v x) 0 + apart cs vs xs
apart cs vs xs = 0

abbrev term : ℕ → Bool → ℕ × ℤ
term place v = (place, if v then neg_ℤ (pos 1) else pos 1)

abbrev pub one_of : Bool → ℕ
one_of b = if b then 1 else 0

-- what a column adds to the sum and to the ones
one-column : (b v x w : Bool) (place : ℕ) (form : Form) (all : List Bool) (n a : ℕ) → slice_index_or all place false ≡ w → w ≡ x
    → form_sum form all +ℤ pos n ≡ pos a
    → form_sum (if b then term place v ∷ form else form) all +ℤ pos (one_of (b && v) + n) ≡ pos (cond b (differ v x) 0 + a)
one-column true true true true place form all n a e f h = rw e (omega (arith, ints))
one-column true true false false place form all n a e f h = rw e (omega (arith, ints))
one-column true false true true place form all n a e f h = rw e (omega (arith, ints))
one-column true false false false place form all n a e f h = rw e (omega (arith, ints))
one-column true v true false place form all n a e f h = absurd cc
one-column true v false true place form all n a e f h = absurd cc
one-column false v x w place form all n a e f h = omega (arith, ints)

-- the sum of the split's form, and the ones, are how far the values are apart
measured : (all : List Bool) (place : ℕ) (cs : List TableColumn) (vs xs : List Bool) → AreAllowed cs vs → AreAllowed cs xs
    → ((k m : ℕ) → m ≡ place + k → slice_index_or all m false ≡ slice_index_or xs k false)
    → form_sum (distance place cs vs) all +ℤ pos (free_ones cs vs) ≡ pos (apart cs vs xs)
measured all place [] [] [] h i same = refl
measured all place [] (v ∷ vs) xs h i same = absurd h
measured all place (c ∷ cs) [] xs h i same = absurd h
measured all place (c ∷ cs) (v ∷ vs) (x ∷ xs) h i same =
    let rest = measured all (suc place) cs vs xs h.1 i.1 (λ k m e. same (suc k) m (omega arith)) in
    one-column (is_zero_or_one c.bounds) v x x place (distance (suc place) cs vs) all (free_ones cs vs) (apart cs vs xs) (same 0 place (omega arith)) refl rest
measured all place _ _ _ h i same = absurd i

same-value : (b : Bounds) (v x : Bool) → allows b v ≡ true → allows b x ≡ true → cond (is_zero_or_one b) (differ v x) 0 ≡ 0 → x ≡ v
same-value ZeroOrOne true true h i e = refl
same-value ZeroOrOne false false h i e = refl
same-value Zero false false h i e = refl
same-value One true true h i e = refl
same-value _ _ _ h i e = absurd cc

-- values that are nowhere apart are the same
not-apart : (cs : List TableColumn) (vs xs : List Bool) → AreAllowed cs vs → AreAllowed cs xs → apart cs vs xs ≡ 0 → xs ≡ vs
not-apart [] [] [] h i e = refl
not-apart [] (v ∷ vs) xs h i e = absurd h
not-apart (c ∷ cs) [] xs h i e = absurd h
not-apart (c ∷ cs) (v ∷ vs) (x ∷ xs) h i e =
    let n : ℕ = cond (is_zero_or_one c.bounds) (differ v x) 0 in
    let m : ℕ = apart cs vs xs in
    let none : n + m ≡ 0 = e in
    ap₂ (λ (y : Bool) (ys : List Bool). y ∷ ys) (same-value c.bounds v x h.0 i.0 (omega arith)) (not-apart cs vs xs h.1 i.1 (omega arith))
not-apart _ _ _ h i e = absurd i

-- ---------- the law ----------

module _ (p : Table) (values : List Bool) (h : IsPoint p values) where
  -- on the side of all others in the split from these values
  abbrev IsBeyond : List Bool → Type 0
  IsBeyond listed = form_sum (side true (distance 0 p.columns listed) (pos 0)).form values ≤ℤ neg_ℤ (neg_ℤ (pos (free_ones p.columns listed)) +ℤ pos 1)

  beyond : (listed : List Bool) → IsPoint p listed → (values ≡ listed) ⊎ IsBeyond listed
  beyond listed point = by (apart p.columns listed values) refl
    where
      by : (d : ℕ) → apart p.columns listed values ≡ d → (values ≡ listed) ⊎ IsBeyond listed
      by zero e = inl (not-apart p.columns listed values point.allowed h.allowed e)
      by (suc d) e =
          let s : ℤ = form_sum (distance 0 p.columns listed) values in
          let n : ℕ = free_ones p.columns listed in
          let sum : s +ℤ pos n ≡ pos (apart p.columns listed values) = measured values 0 p.columns listed values point.allowed h.allowed
          (λ k m e. ap (λ (i : ℕ). slice_index_or values i false) (let t : m ≡ k = omega arith in t)) in
          let far : s +ℤ pos n ≡ pos (suc d) = sum ∙ ap (λ (i : ℕ). pos i) e in
          inr (rw (negated-sum (distance 0 p.columns listed) values) (omega (arith, ints)))

  -- the values are among these, or on that side of each split
  among-or-beyond : (listed : List (List Bool)) → AllByRecursion (IsPoint p) listed → Contains listed values ⊎ AllByRecursion IsBeyond listed
  among-or-beyond [] points = inr tt
  among-or-beyond (v ∷ listed) points = ⊎_elim
      (λ same. inl (0, omega arith, sym same))
      (λ here. ⊎_elim (λ c. inl (suc c.0, (let l = c.1 in omega arith), c.2)) (λ others. inr (here, others)) (among-or-beyond listed points.1))
      (beyond v points.0)

  within : (listed : List (List Bool)) → AllByRecursion IsBeyond listed → IsWithin (cuts_above (all_but p listed)) values
  within [] far = tt
  within (v ∷ listed) far = subst (λ (cuts : List Cut). IsWithin cuts values)
      (sym (ap cuts_above (reverse-append (all_others p v ∷ []) (map (all_others p) listed)) ∙ cuts-last (all_but p listed) true
      (distance 0 p.columns v) (neg_ℤ (pos (free_ones p.columns v)))))
      (far.0, within listed far.1)

pub shown-is-only : ShownIsOnly
shown-is-only p first others certificate point points shows values h lower = ⊎_elim
    (λ among. among)
    (λ far.
    let above : (objective p first +ℤ pos 1) ≤ℤ objective p values =
    shown-within p (one_above p first) (cuts_above (all_but p (first ∷ others))) certificate values shows h
    (within p values h (first ∷ others) far) in
    absurd (omega (arith, ints)))
    (among-or-beyond p values h (first ∷ others) (point, recursion_from_All (IsPoint p) others points))

-- ---------- column by column ----------

chosen : (b : Bool) (t : ℕ × ℤ) (form : Form) → (if b then t ∷ form else form) ≡ (if b then t ∷ [] else []) ++ form
chosen true t form = refl
chosen false t form = refl

-- the term of the column at a place, and then those after it
pub distance-at : (i place : ℕ) (cs : List TableColumn) (vs : List Bool) (b : Bounds) (v : Bool)
    → option_map (λ c. c.bounds) (slice_get cs i) ≡ Some b → slice_get vs i ≡ Some v
    → distance place (drop i cs) (drop i vs) ≡ (if is_zero_or_one b then term place v ∷ [] else []) ++ distance (suc place) (drop (suc i) cs) (drop (suc i) vs)
distance-at zero place (c ∷ cs) [] b v e f = cc f
distance-at zero place (c ∷ cs) (w ∷ vs) b v e f =
    let bounds : c.bounds ≡ b = cc in
    let value : w ≡ v = cc in
    rw (sym bounds, sym value) (chosen (is_zero_or_one c.bounds) (term place w) (distance (suc place) cs vs))
distance-at (suc i) place (c ∷ cs) [] b v e f = cc f
distance-at (suc i) place (c ∷ cs) (w ∷ vs) b v e f = distance-at i place cs vs b v e f
distance-at _ place [] vs b v e f = cc e

pub free_ones-at : (i : ℕ) (cs : List TableColumn) (vs : List Bool) (b : Bounds) (v : Bool)
    → option_map (λ c. c.bounds) (slice_get cs i) ≡ Some b → slice_get vs i ≡ Some v
    → free_ones (drop i cs) (drop i vs) ≡ one_of (is_zero_or_one b && v) + free_ones (drop (suc i) cs) (drop (suc i) vs)
free_ones-at zero (c ∷ cs) [] b v e f = cc f
free_ones-at zero (c ∷ cs) (w ∷ vs) b v e f =
    let bounds : c.bounds ≡ b = cc in
    let value : w ≡ v = cc in
    rw (sym bounds, sym value) refl
free_ones-at (suc i) (c ∷ cs) [] b v e f = cc f
free_ones-at (suc i) (c ∷ cs) (w ∷ vs) b v e f = free_ones-at i cs vs b v e f
free_ones-at _ [] vs b v e f = cc e

-- the cost of the column at a place, if it is 1, and those after it
pub cost-at : (i : ℕ) (cs : List TableColumn) (vs : List Bool) (n : ℤ) (v : Bool) → option_map (λ c. c.cost) (slice_get cs i) ≡ Some n → slice_get vs i ≡ Some v
    → sum_at_one (λ c. c.cost) (drop i cs) (drop i vs) ≡ cond v n (pos 0) +ℤ sum_at_one (λ c. c.cost) (drop (suc i) cs) (drop (suc i) vs)
cost-at zero (c ∷ cs) (w ∷ vs) n v of_cost of_value =
    let cost : c.cost ≡ n = cc in
    let value : w ≡ v = cc in
    by w ∙ ap₂ (λ (b : Bool) (k : ℤ). cond b k (pos 0) +ℤ sum_at_one (λ d. d.cost) cs vs) value cost
  where
    by : (b : Bool) → sum_at_one (λ d. d.cost) (c ∷ cs) (b ∷ vs) ≡ cond b c.cost (pos 0) +ℤ sum_at_one (λ d. d.cost) cs vs
    by true = refl
    by false = omega (arith, ints)
cost-at (suc i) (c ∷ cs) (w ∷ vs) n v of_cost of_value = cost-at i cs vs n v of_cost of_value
cost-at i _ _ n v of_cost of_value = absurd cc
