-- Numbers without their signs: of sums, of forms, and of what a leaf adds up.
use Rattle.std.proofs.Common.{◌≡◌, ℕ, zero, suc, ◌+◌, ◌*◌, ◌^◌, ◌<◌, ◌≤◌, Bool, true, false, cond, List, [], ◌∷◌, ◌++◌}
use Rattle.std.proofs.Common.{length, drop, get_or, refl, subst, sym, ap, ap₂, ◌∙◌, arith, ℤ, pos, neg_ℤ, ◌+ℤ◌, ◌-ℤ◌}
use Rattle.std.proofs.lemmas.List.{length-map, get_or-map}
use Rattle.std.proofs.lemmas.Slice.Zip.{get_or-zip, length-zip}
use Rattle.std.specs.Prelude.{◌*ℤ◌, ◌==◌, if◌then◌else◌, unsigned_abs}
use native.Mathlib.Nat.{mul-le-mul_left}
use Rattle.std.proofs.lemmas.Int.{ints, unsigned_abs-mul}
use Rattle.optimality.specs.Certificates.{Form, Cut, number_in, side, sum_of}
use Rattle.optimality.specs.Sizes.{size_of}
use Rattle.optimality.specs.inside.Sizes.{form_size}
use Rattle.optimality.specs.Adding.{form_at}
use Rattle.optimality.specs.inside.Adding.{form_given}
use Rattle.optimality.specs.Holding.{cut_of, cuts_of}
use Rattle.optimality.specs.Reduced.{right_side_at}
use Rattle.optimality.specs.declared.checker.OpenSplit.{OpenSplit}
use Rattle.program_rows.specs.Program.{TableRow}
use Rattle.optimality.proofs.ProductFacts.{times-sum}
use Rattle.std.specs.List.{zip}

-- ---------- numbers ----------

pub abs-sum : (a b : ℤ) → unsigned_abs (a +ℤ b) ≤ unsigned_abs a + unsigned_abs b
abs-sum a b = omega (arith, ints)

pub abs-less : (a b : ℤ) → unsigned_abs (a -ℤ b) ≤ unsigned_abs a + unsigned_abs b
abs-less a b = omega (arith, ints)

pub abs-negated : (n : ℤ) → unsigned_abs (neg_ℤ n) ≡ unsigned_abs n
abs-negated n = omega (arith, ints)

-- ---------- sums ----------

-- no more than the sum of larger sizes
pub sum-within : {X : Type 0} → (f : X → ℤ) (g : X → ℕ) → ((x : X) → unsigned_abs (f x) ≤ g x) → (xs : List X) → unsigned_abs (sum_of f xs) ≤ size_of g xs
sum-within f g within [] = omega arith
sum-within f g within (x ∷ xs) = omega (arith, ints, abs-sum (f x) (sum_of f xs), within x, sum-within f g within xs)

-- what was taken of a sum, and the sizes of what is left
pub part-within : {X : Type 0} → (f : X → ℤ) (g : X → ℕ) → ((x : X) → unsigned_abs (f x) ≤ g x) → (xs : List X) (i : ℕ)
    → unsigned_abs (sum_of f xs -ℤ sum_of f (drop i xs)) + size_of g (drop i xs) ≤ size_of g xs
part-within f g within xs zero = let none : unsigned_abs (sum_of f xs -ℤ sum_of f xs) ≡ 0 = omega (arith, ints) in omega arith
part-within f g within [] (suc i) = omega (arith, ints)
part-within f g within (x ∷ xs) (suc i) =
    let first = within x in
    let later = part-within f g within xs i in
    let whole = sum_of f xs in
    let left = sum_of f (drop i xs) in
    let split : (f x +ℤ whole) -ℤ left ≡ f x +ℤ (whole -ℤ left) = omega (arith, ints) in
    let moved : unsigned_abs ((f x +ℤ whole) -ℤ left) ≡ unsigned_abs (f x +ℤ (whole -ℤ left)) = ap unsigned_abs split in
    omega (arith, abs-sum (f x) (whole -ℤ left))

-- the size of an item, among those that are left
pub item-within : {X : Type 0} → (g : X → ℕ) (xs : List X) (i : ℕ) (d : X) → i < length xs → g (get_or xs i d) ≤ size_of g (drop i xs)
item-within g [] i d l = absurd (omega arith)
item-within g (x ∷ xs) zero d l = omega arith
item-within g (x ∷ xs) (suc i) d l = item-within g xs i d (omega arith)

-- a sum so far and the next item, where both are a part of a sum
pub step-within : {X : Type 0} → (f : X → ℤ) (g : X → ℕ) → ((x : X) → unsigned_abs (f x) ≤ g x) → (xs : List X) (i : ℕ) (d : X) (now start : ℤ) → i < length xs
    → now +ℤ sum_of f (drop i xs) ≡ start +ℤ sum_of f xs → unsigned_abs now + g (get_or xs i d) ≤ unsigned_abs start + size_of g xs
step-within f g within xs i d now start l h =
    let part = part-within f g within xs i in
    let item = item-within g xs i d l in
    let apart = sum_of f xs -ℤ sum_of f (drop i xs) in
    let is : now ≡ start +ℤ apart = omega (arith, ints) in
    let moved : unsigned_abs now ≡ unsigned_abs (start +ℤ apart) = ap unsigned_abs is in
    omega (arith, abs-sum start apart)

-- ---------- forms ----------

pub at-within : (b : Bool) (n : ℤ) → unsigned_abs (cond b n (pos 0)) ≤ unsigned_abs n
at-within true n = omega arith
at-within false n = omega arith

pub number-within : (form : Form) (q : ℕ) → unsigned_abs (number_in form q) ≤ form_size form
number-within form q = sum-within (λ t. cond (t.0 == q) t.1 (pos 0)) (λ t. unsigned_abs t.1) (λ t. at-within (t.0 == q) t.1) form

-- a multiple of a form so far, and its next term
pub form-step-within : (k : ℤ) (form : Form) (i : ℕ) (d : ℕ × ℤ) (q : ℕ) (now start : ℤ) → i < length form
    → now +ℤ form_given k (drop i form) q ≡ start +ℤ form_given k form q
    → unsigned_abs now + unsigned_abs k * unsigned_abs (get_or form i d).1 ≤ unsigned_abs start + unsigned_abs k * form_size form
form-step-within k form i d q now start l h =
    let all = number_in form q in
    let left = number_in (drop i form) q in
    let apart = all -ℤ left in
    let part : unsigned_abs apart + form_size (drop i form) ≤ form_size form =
    part-within (λ t. cond (t.0 == q) t.1 (pos 0)) (λ t. unsigned_abs t.1) (λ t. at-within (t.0 == q) t.1) form i in
    let item : unsigned_abs (get_or form i d).1 ≤ form_size (drop i form) = item-within (λ t. unsigned_abs t.1) form i d l in
    let split : k *ℤ (left +ℤ apart) ≡ k *ℤ left +ℤ k *ℤ apart = times-sum k left apart in
    let whole : left +ℤ apart ≡ all = omega (arith, ints) in
    let product : k *ℤ all ≡ k *ℤ left +ℤ k *ℤ apart = ap (λ (n : ℤ). k *ℤ n) (sym whole) ∙ split in
    let is : now ≡ start +ℤ k *ℤ apart = omega (arith, ints) in
    let moved : unsigned_abs now ≡ unsigned_abs (start +ℤ k *ℤ apart) = ap unsigned_abs is in
    let both = abs-sum start (k *ℤ apart) in
    let size = unsigned_abs-mul k apart in
    let room : unsigned_abs k * (unsigned_abs apart + unsigned_abs (get_or form i d).1) ≤ unsigned_abs k * form_size form =
    mul-le-mul_left (unsigned_abs k) (omega arith) in
    omega arith

pub times-within : (a b : ℤ) (m : ℕ) → unsigned_abs b ≤ m → unsigned_abs (a *ℤ b) ≤ unsigned_abs a * m
times-within a b m h =
    let more : unsigned_abs a * unsigned_abs b ≤ unsigned_abs a * m = mul-le-mul_left (unsigned_abs a) h in
    omega (arith, unsigned_abs-mul a b)

-- two forms, one after the other
size-both : (a b : Form) → form_size (a ++ b) ≡ form_size a + form_size b
size-both [] b = omega arith
size-both (t ∷ a) b = omega (arith, size-both a b)

pub first-within : (k : ℤ) (a b : Form) (start : ℤ)
    → unsigned_abs start + unsigned_abs k * form_size a ≤ unsigned_abs start + unsigned_abs k * form_size (a ++ b)
first-within k a b start =
    let more : unsigned_abs k * form_size a ≤ unsigned_abs k * form_size (a ++ b) = mul-le-mul_left (unsigned_abs k) (omega (arith, size-both a b)) in
    omega arith

pub second-within : (k : ℤ) (a b : Form) (q : ℕ) (start now : ℤ) → now ≡ start +ℤ form_given k a q
    → unsigned_abs now + unsigned_abs k * form_size b ≤ unsigned_abs start + unsigned_abs k * form_size (a ++ b)
second-within k a b q start now h =
    let given = k *ℤ number_in a q in
    let moved : unsigned_abs now ≡ unsigned_abs (start +ℤ given) = ap unsigned_abs h in
    let both = abs-sum start given in
    let first = times-within k (number_in a q) (form_size a) (number-within a q) in
    let size : unsigned_abs k * form_size (a ++ b) ≡ unsigned_abs k * (form_size a + form_size b) = ap (λ (n : ℕ). unsigned_abs k * n) (size-both a b) in
    omega arith

-- ---------- cuts ----------

pub negated-size : (form : Form) (most : ℤ) → form_size (side true form most).form ≡ form_size form
negated-size [] most = refl
negated-size (t ∷ form) most = ap₂ (λ (a b : ℕ). a + b) (abs-negated t.1) (negated-size form most)

pub side-size : (high : Bool) (form : Form) (most : ℤ) → form_size (side high form most).form ≡ form_size form
side-size true form most = negated-size form most
side-size false form most = refl

pub signed-size : (negative : Bool) (n : ℕ) → unsigned_abs (if negative then neg_ℤ (pos n) else pos n) ≡ n
signed-size true n = abs-negated (pos n)
signed-size false n = refl

-- what is left of the sum over cuts
drop-zip : (i : ℕ) (ys : List ℕ) (splits : List OpenSplit) → i < length splits → drop i (zip ys (cuts_of splits)) ≡ zip (drop i ys) (cuts_of (drop i splits))
drop-zip zero ys splits m = refl
drop-zip (suc i) [] splits m = refl
drop-zip (suc i) (y ∷ ys) [] m = absurd (omega arith)
drop-zip (suc i) (y ∷ ys) (s ∷ splits) m = drop-zip i ys splits (omega arith)

-- a sum over cuts so far, and the next cut
pub cuts-step-within : (f : ℕ × Cut → ℤ) (g : ℕ × Cut → ℕ) → ((e : ℕ × Cut) → unsigned_abs (f e) ≤ g e)
    → (ys : List ℕ) (splits : List OpenSplit) (i : ℕ) (e : ℕ) (d : OpenSplit) (now start : ℤ) → i < length ys → i < length splits
    → now +ℤ sum_of f (zip (drop i ys) (cuts_of (drop i splits))) ≡ start +ℤ sum_of f (zip ys (cuts_of splits))
    → unsigned_abs now + g (get_or ys i e, cut_of (get_or splits i d)) ≤ unsigned_abs start + size_of g (zip ys (cuts_of splits))
cuts-step-within f g within ys splits i e d now start l m h =
    let all = zip ys (cuts_of splits) in
    let short : i < length (cuts_of splits) = omega (arith, length-map splits cut_of) in
    let long : i < length all = omega (arith, length-zip ys (cuts_of splits)) in
    let here = get_or-zip ys (cuts_of splits) i (e, cut_of d) l short ∙ ap (λ (c : Cut). (get_or ys i e, c)) (get_or-map cut_of splits i d (cut_of d) m) in
    subst (λ (x : ℕ × Cut). unsigned_abs now + g x ≤ unsigned_abs start + size_of g all) here
    (step-within f g within all i (e, cut_of d) now start long (rw (drop-zip i ys splits m) h))

-- ---------- terms of a leaf ----------

pub cut-within : (q : ℕ) (e : ℕ × Cut) → unsigned_abs (pos e.0 *ℤ number_in e.1.form q) ≤ e.0 * form_size e.1.form
cut-within q e = times-within (pos e.0) (number_in e.1.form q) (form_size e.1.form) (number-within e.1.form q)

pub row-within : (forms : List Form) (q : ℕ) (t : ℕ × ℤ)
    → unsigned_abs (t.1 *ℤ number_in (form_at forms t.0) q) ≤ unsigned_abs t.1 * form_size (form_at forms t.0)
row-within forms q t = times-within t.1 (number_in (form_at forms t.0) q) (form_size (form_at forms t.0)) (number-within (form_at forms t.0) q)

pub cut-right-within : (e : ℕ × Cut) → unsigned_abs (pos e.0 *ℤ e.1.most) ≤ e.0 * unsigned_abs e.1.most
cut-right-within e = times-within (pos e.0) e.1.most (unsigned_abs e.1.most) (omega arith)

pub row-right-within : (table : List TableRow) (t : ℕ × ℤ)
    → unsigned_abs (t.1 *ℤ right_side_at table t.0) ≤ unsigned_abs t.1 * unsigned_abs (right_side_at table t.0)
row-right-within table t = times-within t.1 (right_side_at table t.0) (unsigned_abs (right_side_at table t.0)) (omega arith)

pub reach : {a b : ℕ} → a ≤ b → 2 ^ 126 ≤ a → 2 ^ 126 ≤ b
reach h large = omega arith
