-- Laws of what workers draw.
use Rattle.std.proofs.Common.{◌≡◌, inl, inr, ℕ, zero, suc, ◌+◌, ◌<◌, ◌≤◌, Bool, true, cond, max, ◌==◌, nat_lt, ⊎_elim}
use Rattle.std.proofs.Common.{ltb-true, eq-eqb, ne_eqb, List, [], ◌∷◌, ◌++◌, length, map, sym, refl, ap, ap₂, ◌∙◌, subst}
use Rattle.std.proofs.Common.{arith, append-nil, lt-ltb, le-ltb, length-append, slice_index_or}
use Rattle.std.specs.Prelude.{All, Any, Contains, filter, Result, Ok, Err, IfOk}
use Rattle.std.specs.List.{AllByRecursion}
use Rattle.std.proofs.lemmas.Bool.{cond-true, cond-false, cond_both, cases_eq, cases_lt}
use Rattle.std.proofs.Math.Nat.{le-max_left, le-max_right}
use Rattle.std.proofs.lemmas.List.{get_or_append_left, get_or_at, map-append}
use Rattle.std.proofs.lemmas.List.Sums.{sum_by-cons}
use Rattle.group_compiler.specs.Claims.{times_drawn, once_below, IsEachBelow}
use Rattle.std.proofs.lemmas.List.Elements.{recursion_from_All, All-from_recursion, filter-append, filter_passes}
use Rattle.group_compiler.specs.Gates.{AreAllPast}
use Rattle.group_compiler.specs.declared.work.Numbered.{Numbered}
use Rattle.group_compiler.specs.inside.Works.{IsFinished}

-- a number that is not below the count is not kept
pub kept_no_more : (count n : ℕ) (xs : List ℕ) → count ≤ n → filter (λ n. nat_lt n count) (xs ++ n ∷ []) ≡ filter (λ n. nat_lt n count) xs
kept_no_more count n xs above =
    filter-append (λ n. nat_lt n count) xs (n ∷ []) ∙ ap (λ (ys : List ℕ). filter (λ n. nat_lt n count) xs ++ ys)
    (cond-false (nat_lt n count) (n ∷ []) [] (le-ltb n count above))
    ∙ append-nil (filter (λ n. nat_lt n count) xs)

pub finished_by : (count n : ℕ) (xs : List ℕ) → count ≤ n → IsFinished count (xs ++ n ∷ [])
finished_by count n xs above =
    let l = length-append xs (n ∷ []) in
    inr (length xs, n, (let k : length xs < length (xs ++ n ∷ []) = omega arith in k), get_or_at xs n [] n (length xs) refl, above)

any_left : (P : ℕ → Type 0) (xs ys : List ℕ) → Any P xs → Any P (xs ++ ys)
any_left P xs ys h = let l = length-append xs ys in
    (h.0, h.1, (let k : h.0 < length (xs ++ ys) = omega arith in k), get_or_append_left xs ys h.1 h.0 h.2 ∙ h.3, h.4)

pub finished_left : (count : ℕ) (xs ys : List ℕ) → IsFinished count xs → IsFinished count (xs ++ ys)
finished_left count xs ys h = let l = length-append xs ys in
    elim h [ inl more ↦ inl (let k : count < length (xs ++ ys) = omega arith in k) | inr one ↦ inr (any_left (λ n. count ≤ n) xs ys one) ]

module _ {T : Type 0} where
  pub numbers_append : (count : ℕ) (rs ss : List (Numbered T)) (xs ys : List ℕ)
      → map (λ (r : Numbered T). r.number) rs ≡ filter (λ n. nat_lt n count) xs
      → map (λ (r : Numbered T). r.number) ss ≡ filter (λ n. nat_lt n count) ys
      → map (λ (r : Numbered T). r.number) (rs ++ ss) ≡ filter (λ n. nat_lt n count) (xs ++ ys)
  numbers_append count rs ss xs ys a b = map-append (λ (r : Numbered T). r.number) rs ss ∙ ap₂ (λ (us vs : List ℕ). us ++ vs) a b
      ∙ sym (filter-append (λ n. nat_lt n count) xs ys)

-- how often a number comes in a list, and that it is in the list
stands_once : (k : ℕ) (xs : List ℕ) → 0 < times_drawn k xs → Contains xs k
stands_once k [] h = absurd (omega arith)
stands_once k (x ∷ xs) h = ⊎_elim
    (λ same. (0, (let l : 0 < length (x ∷ xs) = omega arith in l), same))
    (λ other.
    let s : times_drawn k (x ∷ xs) ≡ cond (x == k) 1 0 + times_drawn k xs = sum_by-cons (λ (y : ℕ). cond (y == k) 1 0) x xs in
    let o : ℕ = cond (x == k) 1 0 in let z : o ≡ 0 = cond-false (x == k) 1 0 (ne_eqb x k other) in
    let more : 0 < times_drawn k xs = omega arith in
    let w = stands_once k xs more in
    (suc w.0, (let l : suc w.0 < length (x ∷ xs) = omega arith in l), w.2))
    (cases_eq x k)

counted : (n : ℕ) (xs : List ℕ) (k : ℕ) → k < length xs → slice_index_or xs k n ≡ n → 0 < times_drawn n xs
counted n [] k l e = absurd (omega arith)
counted n (x ∷ xs) zero l e =
    let s : times_drawn n (x ∷ xs) ≡ cond (x == n) 1 0 + times_drawn n xs = sum_by-cons (λ (y : ℕ). cond (y == n) 1 0) x xs in
    let o : ℕ = cond (x == n) 1 0 in let z : o ≡ 1 = cond-true (x == n) 1 0 (eq-eqb x n e) in
    omega arith
counted n (x ∷ xs) (suc k) l e =
    let s : times_drawn n (x ∷ xs) ≡ cond (x == n) 1 0 + times_drawn n xs = sum_by-cons (λ (y : ℕ). cond (y == n) 1 0) x xs in
    let r = counted n xs k (omega arith) e in
    omega arith

contains_filter : (p : ℕ → Bool) (xs : List ℕ) (i k : ℕ) → p k ≡ true → i < length xs → slice_index_or xs i k ≡ k → Contains (filter p xs) k
contains_filter p [] i k pass l e = absurd (omega arith)
contains_filter p (x ∷ xs) zero k pass l e =
    subst (λ (ys : List ℕ). Contains ys k) (sym (cond-true (p x) (x ∷ filter p xs) (filter p xs) (ap p e ∙ pass))) (zero, omega arith, e)
contains_filter p (x ∷ xs) (suc i) k pass l e =
    let rest = contains_filter p xs i k pass (omega arith) e in
    let within = rest.1 in
    cond_both (p x) (x ∷ filter p xs) (filter p xs) (λ ys. Contains ys k) (λ yes. (suc rest.0, omega arith, rest.2)) (λ no. rest)

in_filter : (count k : ℕ) (xs : List ℕ) → k < count → Contains xs k → Contains (filter (λ n. nat_lt n count) xs) k
in_filter count k xs below h = contains_filter (λ n. nat_lt n count) xs h.0 k (lt-ltb k count below) h.1 h.2

below_some : (x n : ℕ) → 0 < once_below x n → x < n
below_some x n h = ⊎_elim
    (λ l. l)
    (λ g. let z : once_below x n ≡ 0 = cond-false (nat_lt x n) 1 0 (le-ltb x n g) in absurd (omega arith))
    (cases_lt x n)

-- the workers are finished only once every number was drawn
above_count : (count w : ℕ) (xs : List ℕ) → IsEachBelow w xs → length xs ≡ w → IsFinished count xs → count ≤ w
above_count count w xs each long f = elim f [
  | inl more ↦ omega arith
  | inr one ↦
      let there = counted one.1 xs one.0 one.2 one.3 in
      let n : ℕ = once_below one.1 w in
      let e : times_drawn one.1 xs ≡ n = each one.1 in
      let some : 0 < n = omega arith in
      let low : one.1 < w = below_some one.1 w some in
      let high = one.4 in
      omega arith
]

all_drawn : (end w : ℕ) (xs : List ℕ) → IsEachBelow w xs → length xs ≡ w → IsFinished end xs → (k : ℕ) → k < end → Contains xs k
all_drawn end w xs each long f k below =
    let all = above_count end w xs each long f in
    let n : ℕ = once_below k w in
    let one : n ≡ 1 = cond-true (nat_lt k w) 1 0 (lt-ltb k w (omega arith)) in
    let t : times_drawn k xs ≡ n = each k in
    let some : 0 < times_drawn k xs = omega arith in
    stands_once k xs some

-- something is made of every number below the count
pub all_made : (count groups w : ℕ) (xs ns : List ℕ) → IsEachBelow w xs → length xs ≡ w → IsFinished (max count groups) xs
    → ns ≡ filter (λ n. nat_lt n count) xs → (k : ℕ) → k < count → Contains ns k
all_made count groups w xs ns each long f e k below =
    let most = le-max_left count groups in
    subst (λ (ys : List ℕ). Contains ys k) (sym e) (in_filter count k xs below (all_drawn (max count groups) w xs each long f k (omega arith)))

-- and every group has come past the gate
pub all_past : (count groups w : ℕ) (is_past : ℕ → Type 0) (xs : List ℕ) → IsEachBelow w xs → length xs ≡ w
    → IsFinished (max count groups) xs → All (λ n. n < groups → is_past (n + 1)) xs → AreAllPast groups is_past
all_past count groups w is_past xs each long f past n below =
    let most = le-max_right count groups in
    let at = all_drawn (max count groups) w xs each long f n (omega arith) in
    subst (λ (m : ℕ). m < groups → is_past (m + 1)) at.2 (past at.0 n at.1) below

module _ {T : Type 0} where
  below_each : (count : ℕ) (rs : List (Numbered T)) → AllByRecursion (λ n. nat_lt n count ≡ true) (map (λ (r : Numbered T). r.number) rs)
      → AllByRecursion (λ (r : Numbered T). r.number < count) rs
  below_each count [] a = tt
  below_each count (r ∷ rs) a = (ltb-true r.number count a.0, below_each count rs a.1)

  pub all_below : (count : ℕ) (xs : List ℕ) (rs : List (Numbered T))
      → map (λ (r : Numbered T). r.number) rs ≡ filter (λ n. nat_lt n count) xs → All (λ (r : Numbered T). r.number < count) rs
  all_below count xs rs e = All-from_recursion (λ (r : Numbered T). r.number < count) rs (below_each count rs
      (subst (λ (ns : List ℕ). AllByRecursion (λ n. nat_lt n count ≡ true) ns) (sym e)
      (recursion_from_All (λ n. nat_lt n count ≡ true) (filter (λ n. nat_lt n count) xs) (filter_passes (λ n. nat_lt n count) xs))))

pub if_both : {T E : Type 0} (r : Result T E) (P Q : T → Type 0) → IfOk r P → IfOk r Q → IfOk r (λ x. P x × Q x)
if_both (Ok x) P Q p q = (p, q)
if_both (Err y) P Q p q = tt
