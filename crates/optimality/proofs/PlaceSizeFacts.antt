-- Sizes by place: of forms that are added up, and of what all places hold.
use Rattle.std.proofs.Common.{◌≡◌, ℕ, zero, suc, ◌+◌, ◌*◌, ◌<◌, ◌≤◌, Bool, true, false, cond, List, [], ◌∷◌, ◌++◌, refl, sym, ap, ap₂, ◌∙◌, arith, ℤ, pos, ◌+ℤ◌}
use Rattle.std.specs.Prelude.{◌*ℤ◌, ◌==◌, Some, unsigned_abs}
use Rattle.std.specs.List.{zip}
use native.Mathlib.Nat.{mul-le-mul_left}
use Rattle.std.proofs.lemmas.Int.{ints}
use Rattle.std.proofs.lemmas.Bool.Decides.{nat_tests}
use Rattle.optimality.specs.Certificates.{Form, Cut, number_in}
use Rattle.optimality.specs.Sizes.{size_of}
use Rattle.optimality.specs.inside.Sizes.{form_size}
use Rattle.optimality.specs.Adding.{number_at, AreGivenMore, IsTaken, at_place, form_at}
use Rattle.optimality.specs.inside.Adding.{AreNoLarger, size_in, sizes_below, cuts_given, rows_given}
use Rattle.optimality.proofs.SizeFacts.{abs-sum, sum-within, at-within, times-within}

-- ---------- sums over places ----------

abbrev over : ℕ → (ℕ → ℕ) → ℕ
over zero s = 0
over (suc m) s = over m s + s m

over-below : (m : ℕ) (s other : ℕ → ℕ) → ((q : ℕ) → s q ≤ other q) → over m s ≤ over m other
over-below zero s other h = omega arith
over-below (suc m) s other h = omega (arith, over-below m s other h, h m)

over-both : (m : ℕ) (s other : ℕ → ℕ) → over m (λ q. s q + other q) ≡ over m s + over m other
over-both zero s other = refl
over-both (suc m) s other = let later = over-both m s other in omega arith

over-times : (m k : ℕ) (s : ℕ → ℕ) → over m (λ q. k * s q) ≡ k * over m s
over-times zero k s = omega arith
over-times (suc m) k s = let later = over-times m k s in omega arith

over-none : (m : ℕ) → over m (λ _. 0) ≡ 0
over-none zero = refl
over-none (suc m) = let later = over-none m in omega arith

-- ---------- forms, weighed by place ----------

-- all places of a form are below this
abbrev pub top : Form → ℕ
top [] = 0
top (t ∷ form) = suc t.0 + top form

elsewhere : (place q n : ℕ) (h : ℕ → ℕ) → (place == q) ≡ false → cond (place == q) n 0 * h q ≡ 0
elsewhere place q n h e = rw e (omega arith)

here : (place q n : ℕ) (h : ℕ → ℕ) → (place == q) ≡ true → cond (place == q) n 0 * h q ≡ n * h q
here place q n h e = rw e refl

past : (m place n : ℕ) (h : ℕ → ℕ) → m ≤ place → over m (λ q. cond (place == q) n 0 * h q) ≡ 0
past zero place n h l = refl
past (suc m) place n h l =
    let other : (place == m) ≡ false = grind (arith, nat_tests) in
    let none = elsewhere place m n h other in
    let later = past m place n h (omega arith) in
    omega arith

one-place : (m place n : ℕ) (h : ℕ → ℕ) → place < m → over m (λ q. cond (place == q) n 0 * h q) ≡ n * h place
one-place zero place n h l = absurd (omega arith)
one-place (suc m) place n h l = by (one-place m place n h) (place == m) refl
  where
    by : (place < m → over m (λ q. cond (place == q) n 0 * h q) ≡ n * h place) → (b : Bool) → (place == m) ≡ b
        → over m (λ q. cond (place == q) n 0 * h q) + cond (place == m) n 0 * h m ≡ n * h place
    by earlier true e =
        let same : place ≡ m = grind (arith, nat_tests) in
        let now = here place m n h e in
        let none = past m place n h (omega arith) in
        let at : h m ≡ h place = ap h (sym same) in
        let moved : n * h m ≡ n * h place = ap (λ (k : ℕ). n * k) at in
        omega arith
    by earlier false e =
        let less : place < m = grind (arith, nat_tests) in
        omega (arith, earlier less, elsewhere place m n h e)

none-times : (k : ℕ) → 0 * k ≡ 0
none-times k = omega arith

over-same : (m : ℕ) (s other : ℕ → ℕ) → ((q : ℕ) → s q ≡ other q) → over m s ≡ over m other
over-same zero s other same = refl
over-same (suc m) s other same = ap₂ (λ (a b : ℕ). a + b) (over-same m s other same) (same m)

distributed : (a b k : ℕ) → a * k + b * k ≡ (a + b) * k
distributed a b k = omega arith

weighed-form : (m : ℕ) (form : Form) (h : ℕ → ℕ) → top form ≤ m → size_of (λ t. unsigned_abs t.1 * h t.0) form ≡ over m (λ q. size_in form q * h q)
weighed-form m [] h l = sym (over-times m 0 h ∙ none-times (over m h))
weighed-form m (t ∷ form) h l =
    let first : over m (λ q. cond (t.0 == q) (unsigned_abs t.1) 0 * h q) ≡ unsigned_abs t.1 * h t.0 = one-place m t.0 (unsigned_abs t.1) h (omega arith) in
    let later : size_of (λ s. unsigned_abs s.1 * h s.0) form ≡ over m (λ q. size_in form q * h q) = weighed-form m form h (omega arith) in
    let both : over m (λ q. cond (t.0 == q) (unsigned_abs t.1) 0 * h q + size_in form q * h q)
    ≡ over m (λ q. cond (t.0 == q) (unsigned_abs t.1) 0 * h q) + over m (λ q. size_in form q * h q) =
    over-both m (λ q. cond (t.0 == q) (unsigned_abs t.1) 0 * h q) (λ q. size_in form q * h q) in
    let joined : over m (λ q. cond (t.0 == q) (unsigned_abs t.1) 0 * h q + size_in form q * h q)
    ≡ over m (λ q. (cond (t.0 == q) (unsigned_abs t.1) 0 + size_in form q) * h q) =
    over-same m (λ q. cond (t.0 == q) (unsigned_abs t.1) 0 * h q + size_in form q * h q)
    (λ q. (cond (t.0 == q) (unsigned_abs t.1) 0 + size_in form q) * h q)
    (λ q. distributed (cond (t.0 == q) (unsigned_abs t.1) 0) (size_in form q) (h q)) in
    omega arith

weighed-less : (a b k : ℕ) → a ≤ b → a * k ≤ b * k
weighed-less a b k h = let scaled : k * a ≤ k * b = mul-le-mul_left k h in omega arith

-- a form that gives no place more, however places are weighed
pub no-larger : (form other : Form) (h : ℕ → ℕ) → AreNoLarger form other
    → size_of (λ t. unsigned_abs t.1 * h t.0) form ≤ size_of (λ t. unsigned_abs t.1 * h t.0) other
no-larger form other h less =
    let m = top form + top other in
    let left = weighed-form m form h (omega arith) in
    let right = weighed-form m other h (omega arith) in
    let between = over-below m (λ q. size_in form q * h q) (λ q. size_in other q * h q) (λ q. weighed-less (size_in form q) (size_in other q) (h q) (less q)) in
    omega arith

plain-size : (form : Form) → size_of (λ t. unsigned_abs t.1 * 1) form ≡ form_size form
plain-size [] = refl
plain-size (t ∷ form) = let later = plain-size form in omega arith

pub form-no-larger : (form other : Form) → AreNoLarger form other → form_size form ≤ form_size other
form-no-larger form other less =
    let weighed = no-larger form other (λ _. 1) less in
    omega (arith, plain-size form, plain-size other)

-- ---------- what a form gives ----------

at-size : (b : Bool) (n : ℤ) → unsigned_abs (cond b n (pos 0)) ≤ cond b (unsigned_abs n) 0
at-size true n = omega arith
at-size false n = omega arith

pub number-size : (form : Form) (q : ℕ) → unsigned_abs (number_in form q) ≤ size_in form q
number-size form q = sum-within (λ t. cond (t.0 == q) t.1 (pos 0)) (λ t. cond (t.0 == q) (unsigned_abs t.1) 0) (λ t. at-size (t.0 == q) t.1) form

plain-past : (m place n : ℕ) → m ≤ place → over m (λ q. cond (place == q) n 0) ≡ 0
plain-past zero place n l = refl
plain-past (suc m) place n l =
    let other : (place == m) ≡ false = grind (arith, nat_tests) in
    let none : cond (place == m) n 0 ≡ 0 = ap (λ (b : Bool). cond b n 0) other in
    let later = plain-past m place n (omega arith) in
    omega arith

one-within : (m place n : ℕ) → over m (λ q. cond (place == q) n 0) ≤ n
one-within zero place n = omega arith
one-within (suc m) place n = by (one-within m place n) (place == m) refl
  where
    by : over m (λ q. cond (place == q) n 0) ≤ n → (b : Bool) → (place == m) ≡ b → over m (λ q. cond (place == q) n 0) + cond b n 0 ≤ n
    by later true e =
        let same : place ≡ m = grind (arith, nat_tests) in
        let none = plain-past m place n (omega arith) in
        omega arith
    by later false e = omega arith

form-over : (m : ℕ) (form : Form) → over m (λ q. size_in form q) ≤ form_size form
form-over m [] = let none = over-none m in omega arith
form-over m (t ∷ form) =
    let first = one-within m t.0 (unsigned_abs t.1) in
    let later = form-over m form in
    let both = over-both m (λ q. cond (t.0 == q) (unsigned_abs t.1) 0) (λ q. size_in form q) in
    omega arith

-- ---------- what is given all places ----------

-- a multiple of each, where what each gives all places is bounded
sizes-over : {X : Type 0} → (m : ℕ) (k : X → ℕ) (s : X → ℕ → ℕ) (b : X → ℕ) → ((x : X) → over m (s x) ≤ b x) → (xs : List X)
    → over m (λ q. size_of (λ x. k x * s x q) xs) ≤ size_of (λ x. k x * b x) xs
sizes-over m k s b within [] = let none = over-none m in omega arith
sizes-over m k s b within (x ∷ xs) =
    let later = sizes-over m k s b within xs in
    let both = over-both m (λ q. k x * s x q) (λ q. size_of (λ y. k y * s y q) xs) in
    let first : k x * over m (s x) ≤ k x * b x = mul-le-mul_left (k x) (within x) in
    omega (arith, over-times m (k x) (s x))

sizes-are : (m : ℕ) (numbers : List ℤ) → sizes_below m numbers ≡ over m (λ q. unsigned_abs (number_at numbers q))
sizes-are zero numbers = refl
sizes-are (suc m) numbers = ap (λ (n : ℕ). n + unsigned_abs (number_at numbers m)) (sizes-are m numbers)

-- what cuts and rows give the first places
pub given-within : (m : ℕ) (ys : List ℕ) (cuts : List Cut) (rows : Form) (forms : List Form) (numbers : List ℤ)
    → ((q : ℕ) → number_at numbers q ≡ cuts_given ys cuts q +ℤ rows_given rows forms q)
    → sizes_below m numbers ≤ size_of (λ e. e.0 * form_size e.1.form) (zip ys cuts) + size_of (λ t. unsigned_abs t.1 * form_size (form_at forms t.0)) rows
given-within m ys cuts rows forms numbers given =
    let of_cuts = λ (q : ℕ). size_of (λ (e : ℕ × Cut). e.0 * size_in e.1.form q) (zip ys cuts) in
    let of_rows = λ (q : ℕ). size_of (λ (t : ℕ × ℤ). unsigned_abs t.1 * size_in (form_at forms t.0) q) rows in
    let each : over m (λ q. unsigned_abs (number_at numbers q)) ≤ over m (λ q. of_cuts q + of_rows q) =
    over-below m (λ q. unsigned_abs (number_at numbers q)) (λ q. of_cuts q + of_rows q) (λ q. one q) in
    let both = over-both m of_cuts of_rows in
    let cuts_all : over m of_cuts ≤ size_of (λ e. e.0 * form_size e.1.form) (zip ys cuts) = sizes-over m (λ (e : ℕ × Cut). e.0)
    (λ (e : ℕ × Cut) (q : ℕ). size_in e.1.form q) (λ (e : ℕ × Cut). form_size e.1.form) (λ e. form-over m e.1.form) (zip ys cuts) in
    let rows_all : over m of_rows ≤ size_of (λ t. unsigned_abs t.1 * form_size (form_at forms t.0)) rows =
    sizes-over m (λ (t : ℕ × ℤ). unsigned_abs t.1) (λ (t : ℕ × ℤ) (q : ℕ). size_in (form_at forms t.0) q)
    (λ (t : ℕ × ℤ). form_size (form_at forms t.0)) (λ t. form-over m (form_at forms t.0)) rows in
    omega (arith, sizes-are m numbers)
  where
    one : (q : ℕ) → unsigned_abs (number_at numbers q) ≤ size_of (λ (e : ℕ × Cut). e.0 * size_in e.1.form q) (zip ys cuts) + size_of
        (λ (t : ℕ × ℤ). unsigned_abs t.1 * size_in (form_at forms t.0) q) rows
    one q =
        let left : unsigned_abs (cuts_given ys cuts q) ≤ size_of (λ (e : ℕ × Cut). e.0 * size_in e.1.form q) (zip ys cuts) = sum-within
        (λ (e : ℕ × Cut). pos e.0 *ℤ number_in e.1.form q) (λ (e : ℕ × Cut). e.0 * size_in e.1.form q)
        (λ e. times-within (pos e.0) (number_in e.1.form q) (size_in e.1.form q) (number-size e.1.form q)) (zip ys cuts) in
        let right : unsigned_abs (rows_given rows forms q) ≤ size_of (λ (t : ℕ × ℤ). unsigned_abs t.1 * size_in (form_at forms t.0) q) rows =
        sum-within (λ (t : ℕ × ℤ). t.1 *ℤ number_in (form_at forms t.0) q) (λ (t : ℕ × ℤ). unsigned_abs t.1 * size_in (form_at forms t.0) q)
        (λ t. times-within t.1 (number_in (form_at forms t.0) q) (size_in (form_at forms t.0) q) (number-size (form_at forms t.0) q))
        rows in
        let is : unsigned_abs (number_at numbers q) ≡ unsigned_abs (cuts_given ys cuts q +ℤ rows_given rows forms q) = ap unsigned_abs (given q) in
        omega (arith, abs-sum (cuts_given ys cuts q) (rows_given rows forms q))

-- ---------- taking all ----------

size-last : (form : Form) (t : ℕ × ℤ) (q : ℕ) → size_in (form ++ t ∷ []) q ≡ size_in form q + cond (t.0 == q) (unsigned_abs t.1) 0
size-last [] t q = omega arith
size-last (s ∷ form) t q = let later = size-last form t q in omega arith

left-at : (before after : List ℤ) (t : ℕ × ℤ) (q : ℕ) → IsTaken (Some t) before after
    → unsigned_abs (number_at after q) + cond (t.0 == q) (unsigned_abs t.1) 0 ≡ unsigned_abs (number_at before q)
left-at before after t q taken = by (t.0 == q) refl (taken.1 q)
  where
    by : (b : Bool) → (t.0 == q) ≡ b → number_at before q ≡ number_at after q +ℤ cond b t.1 (pos 0)
        → unsigned_abs (number_at after q) + cond b (unsigned_abs t.1) 0 ≡ unsigned_abs (number_at before q)
    by true e split =
        let same : t.0 ≡ q = grind (arith, nat_tests) in
        let none : number_at after q ≡ pos 0 = ap (λ (k : ℕ). number_at after k) (sym same) ∙ taken.0 in
        let is : number_at before q ≡ t.1 = omega (arith, ints) in
        let gone : unsigned_abs (number_at after q) ≡ 0 = ap unsigned_abs none in
        let all : unsigned_abs (number_at before q) ≡ unsigned_abs t.1 = ap unsigned_abs is in
        omega arith
    by false e split =
        let is : number_at before q ≡ number_at after q = omega (arith, ints) in
        let all : unsigned_abs (number_at before q) ≡ unsigned_abs (number_at after q) = ap unsigned_abs is in
        omega arith

pub size-pushed : (all : ℕ → ℕ) (form next : Form) (t : ℕ × ℤ) (before after : List ℤ) → IsTaken (Some t) before after
    → next ≡ form ++ t ∷ [] → ((q : ℕ) → size_in form q + unsigned_abs (number_at before q) ≤ all q)
    → (q : ℕ) → size_in next q + unsigned_abs (number_at after q) ≤ all q
size-pushed all form next t before after taken e h q =
    let pushed : size_in next q ≡ size_in form q + cond (t.0 == q) (unsigned_abs t.1) 0 = ap (λ (f : Form). size_in f q) e ∙ size-last form t q in
    omega (arith, left-at before after t q taken, h q)

-- the sizes of the first places before one of them is taken, and those after
pub below-taken : (m : ℕ) (before after : List ℤ) (t : ℕ × ℤ) → IsTaken (Some t) before after → sizes_below m after ≤ sizes_below m before
below-taken zero before after t taken = omega arith
below-taken (suc m) before after t taken = omega (arith, below-taken m before after t taken, left-at before after t m taken)

pub below-taken-from : (m : ℕ) (before after : List ℤ) (t : ℕ × ℤ) → IsTaken (Some t) before after → t.0 < m
    → sizes_below m after + unsigned_abs t.1 ≤ sizes_below m before
below-taken-from zero before after t taken l = absurd (omega arith)
below-taken-from (suc m) before after t taken l = by (below-taken-from m before after t taken) (t.0 == m) refl (left-at before after t m taken)
  where
    by : (t.0 < m → sizes_below m after + unsigned_abs t.1 ≤ sizes_below m before) → (b : Bool) → (t.0 == m) ≡ b
        → unsigned_abs (number_at after m) + cond b (unsigned_abs t.1) 0 ≡ unsigned_abs (number_at before m)
        → sizes_below (suc m) after + unsigned_abs t.1 ≤ sizes_below (suc m) before
    by earlier true e left = let later = below-taken m before after t taken in omega arith
    by earlier false e left =
        let less : t.0 < m = grind (arith, nat_tests) in
        omega (arith, earlier less)

-- a number more at a place
pub more-within : (before after : List ℤ) (t : ℕ × ℤ) → AreGivenMore (at_place t.0 t.1) before after → (q : ℕ)
    → unsigned_abs (number_at after q) ≤ unsigned_abs (number_at before q) + unsigned_abs t.1
more-within before after t more q =
    let is : unsigned_abs (number_at after q) ≡ unsigned_abs (number_at before q +ℤ at_place t.0 t.1 q) = ap unsigned_abs (more q) in
    omega (arith, abs-sum (number_at before q) (at_place t.0 t.1 q), at-within (t.0 == q) t.1)
