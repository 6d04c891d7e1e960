-- Numbers by place: what a write, a step of a loop and a taken place leave.
use Rattle.std.proofs.Common.{◌≡◌, ℕ, suc, ◌+◌, ◌<◌, ◌≤◌, Bool, true, false, cond, List, [], ◌∷◌, ◌++◌, length, drop}
use Rattle.std.proofs.Common.{drop-cons, get_or, slice_set, refl, sym, ap, ◌∙◌, arith, get_or-set_other, length-set, ℤ, pos}
use Rattle.std.proofs.Common.{neg_ℤ, ◌+ℤ◌, ◌≢◌}
use Rattle.std.specs.Prelude.{◌*ℤ◌, ◌==◌, ◌||◌, Some}
use Rattle.std.proofs.lemmas.Grind.{get_or-set_at}
use Rattle.std.proofs.lemmas.List.{get_or_past, drop_all}
use Rattle.std.proofs.lemmas.Int.{ints, by_lt_z}
use Rattle.std.proofs.lemmas.Bool.Decides.{nat_tests}
use lib.IntN.{*ℤ-zero}
use Rattle.optimality.specs.Certificates.{Form, number_in, side}
use Rattle.optimality.specs.Adding.{number_at, AreGivenMore, at_place, IsTaken}
use Rattle.optimality.specs.inside.Adding.{has_place, AreListed, AreAsBefore, form_given}
use Rattle.optimality.proofs.ProductFacts.{times-sum}

-- ---------- a write ----------

pub set-at : (numbers : List ℤ) (place q : ℕ) (n : ℤ) → place < length numbers
    → number_at (slice_set numbers place n) q ≡ cond (place == q) n (number_at numbers q)
set-at numbers place q n h = by (place == q) refl
  where
    by : (b : Bool) → (place == q) ≡ b → number_at (slice_set numbers place n) q ≡ cond b n (number_at numbers q)
    by true e = let same : q ≡ place = grind (arith, nat_tests) in get_or-set_at numbers place q n (pos 0) same h
    by false e = let other : q ≢ place = grind (arith, nat_tests) in get_or-set_other numbers place q n (pos 0) other

-- 0, wherever the place is
zero-at : (numbers : List ℤ) (place q : ℕ) → number_at (slice_set numbers place (pos 0)) q ≡ cond (place == q) (pos 0) (number_at numbers q)
zero-at numbers place q = by_lt_z (pos place) (pos (length numbers))
    (λ less. let within : place < length numbers = omega (arith, ints) in set-at numbers place q (pos 0) within)
    (λ more. let past : length numbers ≤ place = omega (arith, ints) in by past (place == q) refl)
  where
    by : length numbers ≤ place → (b : Bool) → (place == q) ≡ b → number_at (slice_set numbers place (pos 0)) q ≡ cond b (pos 0) (number_at numbers q)
    by past true e =
        let same : q ≡ place = grind (arith, nat_tests) in
        let after : length (slice_set numbers place (pos 0)) ≤ q = omega (arith, length-set numbers place (pos 0)) in
        get_or_past (slice_set numbers place (pos 0)) q (pos 0) after
    by past false e = let other : q ≢ place = grind (arith, nat_tests) in get_or-set_other numbers place q (pos 0) (pos 0) other

-- ---------- listed places ----------

not-pushed : (places : List ℕ) (place q : ℕ) → has_place (places ++ place ∷ []) q ≡ false → (has_place places q ≡ false) × ((place == q) ≡ false)
not-pushed [] place q h = by (place == q) refl h
  where
    by : (b : Bool) → (place == q) ≡ b → (b || false) ≡ false → (false ≡ false) × ((place == q) ≡ false)
    by true e h = absurd cc
    by false e h = (refl, e)
not-pushed (p ∷ places) place q h = by (not-pushed places place q) (p == q) h
  where
    by : (has_place (places ++ place ∷ []) q ≡ false → (has_place places q ≡ false) × ((place == q) ≡ false)) → (b : Bool)
        → (b || has_place (places ++ place ∷ []) q) ≡ false → ((b || has_place places q) ≡ false) × ((place == q) ≡ false)
    by later true h = absurd cc
    by later false h = later h

not-listed-last : (places : List ℕ) (place q : ℕ) → has_place places q ≡ false → (place == q) ≡ false → has_place (places ++ place ∷ []) q ≡ false
not-listed-last [] place q h e = rw e refl
not-listed-last (p ∷ places) place q h e = by (λ none. not-listed-last places place q none e) (p == q) h
  where
    by : (has_place places q ≡ false → has_place (places ++ place ∷ []) q ≡ false) → (b : Bool) → (b || has_place places q) ≡ false
        → (b || has_place (places ++ place ∷ []) q) ≡ false
    by later true h = absurd cc
    by later false h = later h

-- ---------- a number more ----------

pub more-set : (before grown : List ℤ) (place : ℕ) (n : ℤ) → AreAsBefore before grown → place < length grown
    → AreGivenMore (at_place place n) before (slice_set grown place (number_at before place +ℤ n))
more-set before grown place n same h q = set-at grown place q (number_at before place +ℤ n) h ∙ by (place == q) refl
  where
    by : (b : Bool) → (place == q) ≡ b → cond b (number_at before place +ℤ n) (number_at grown q) ≡ number_at before q +ℤ cond b n (pos 0)
    by true e = let here : q ≡ place = grind (arith, nat_tests) in ap (λ (k : ℕ). number_at before k +ℤ n) (sym here)
    by false e = same q ∙ omega (arith, ints)

-- a place that had 0 is listed now, and no other one is left out
pub listed-too : (places more : List ℕ) (before grown : List ℤ) (place : ℕ) (n : ℤ)
    → ((q : ℕ) → has_place more q ≡ false → has_place places q ≡ false) → (number_at before place ≡ pos 0 → has_place more place ≡ true)
    → AreListed places before → AreAsBefore before grown → place < length grown → AreListed more (slice_set grown place n)
listed-too places more before grown place n kept new listed same h q none = set-at grown place q n h ∙ by (place == q) refl
  where
    by : (b : Bool) → (place == q) ≡ b → cond b n (number_at grown q) ≡ pos 0
    by true e =
        let here : q ≡ place = grind (arith, nat_tests) in
        let was : number_at before place ≡ pos 0 = ap (λ (k : ℕ). number_at before k) (sym here) ∙ listed q (kept q none) in
        let now : has_place more q ≡ true = ap (λ (k : ℕ). has_place more k) here ∙ new was in
        absurd cc
    by false e = same q ∙ listed q (kept q none)

pub place-pushed : (places : List ℕ) (place : ℕ) → has_place (places ++ place ∷ []) place ≡ true
place-pushed [] place = let same : (place == place) ≡ true = grind (arith, nat_tests) in rw same refl
place-pushed (p ∷ places) place = by (p == place) (place-pushed places place)
  where
    by : (b : Bool) → has_place (places ++ place ∷ []) place ≡ true → (b || has_place (places ++ place ∷ []) place) ≡ true
    by true e = refl
    by false e = e

pub pushed-keeps : (places : List ℕ) (place q : ℕ) → has_place (places ++ place ∷ []) q ≡ false → has_place places q ≡ false
pushed-keeps places place q h = (not-pushed places place q h).0

-- ---------- a place taken ----------

pub listed-taken : (places : List ℕ) (numbers : List ℤ) (place : ℕ) → AreListed (places ++ place ∷ []) numbers
    → AreListed places (slice_set numbers place (pos 0))
listed-taken places numbers place listed q none = zero-at numbers place q ∙ by (place == q) refl
  where
    by : (b : Bool) → (place == q) ≡ b → cond b (pos 0) (number_at numbers q) ≡ pos 0
    by true e = refl
    by false e = listed q (not-listed-last places place q none e)

-- ---------- steps of loops ----------

-- what is left at a place is its element and what is left after it
pub rest : {A : Type 0} → (xs : List A) (i : ℕ) (d : A) → i < length xs → drop i xs ≡ get_or xs i d ∷ drop (i + 1) xs
rest xs i d h = let next : i + 1 ≡ suc i = omega arith in rw (next, drop-cons xs i d) refl

pub times-at : (k n : ℤ) (b : Bool) → cond b (k *ℤ n) (pos 0) ≡ k *ℤ cond b n (pos 0)
times-at k n true = refl
times-at k n false = sym (*ℤ-zero k)

-- the multiple of a form's term, and that of the terms after it
pub form-rest : (k : ℤ) (form : Form) (i : ℕ) (d : ℕ × ℤ) (q : ℕ) → i < length form
    → form_given k (drop i form) q ≡ at_place (get_or form i d).0 (k *ℤ (get_or form i d).1) q +ℤ form_given k (drop (i + 1) form) q
form-rest k form i d q h =
    let t = get_or form i d in
    ap (λ (f : Form). k *ℤ number_in f q) (rest form i d h)
    ∙ times-sum k (cond (t.0 == q) t.1 (pos 0)) (number_in (drop (i + 1) form) q)
    ∙ ap (λ (n : ℤ). n +ℤ k *ℤ number_in (drop (i + 1) form) q) (sym (times-at k t.1 (t.0 == q)))

-- what was given and what is left to be given
abbrev pub IsSplit : (ℕ → ℤ) → (ℕ → ℤ) → (ℕ → ℤ) → Type 0
IsSplit all first later = (q : ℕ) → all q ≡ first q +ℤ later q

pub given-step : (all first later : ℕ → ℤ) (start before after : List ℤ) (total : ℕ → ℤ) → IsSplit all first later
    → AreGivenMore first before after → ((q : ℕ) → number_at before q +ℤ all q ≡ number_at start q +ℤ total q) → (q : ℕ)
    → number_at after q +ℤ later q ≡ number_at start q +ℤ total q
given-step all first later start before after total split more h q = omega (arith, ints, split q, more q, h q)

pub form-step : (k : ℤ) (form : Form) (i : ℕ) (d : ℕ × ℤ) (start before after : List ℤ) → i < length form
    → AreGivenMore (at_place (get_or form i d).0 (k *ℤ (get_or form i d).1)) before after
    → ((q : ℕ) → number_at before q +ℤ form_given k (drop i form) q ≡ number_at start q +ℤ form_given k form q) → (q : ℕ)
    → number_at after q +ℤ form_given k (drop (i + 1) form) q ≡ number_at start q +ℤ form_given k form q
form-step k form i d start before after l more h =
    given-step (form_given k (drop i form)) (at_place (get_or form i d).0 (k *ℤ (get_or form i d).1)) (form_given k (drop (i + 1) form))
    start before after (form_given k form) (λ q. form-rest k form i d q l) more h

pub form-end : (k : ℤ) (form : Form) (i : ℕ) (start after : List ℤ) → length form ≤ i
    → ((q : ℕ) → number_at after q +ℤ form_given k (drop i form) q ≡ number_at start q +ℤ form_given k form q)
    → AreGivenMore (form_given k form) start after
form-end k form i start after l h q =
    let e : number_at after q +ℤ k *ℤ pos 0 ≡ number_at start q +ℤ form_given k form q =
    ap (λ (f : Form). number_at after q +ℤ form_given k f q) (sym (drop_all i form l)) ∙ h q in
    let none : k *ℤ pos 0 ≡ pos 0 = *ℤ-zero k in
    omega (arith, ints)

-- two forms, one after the other
number-both : (a b : Form) (q : ℕ) → number_in (a ++ b) q ≡ number_in a q +ℤ number_in b q
number-both [] b q = omega (arith, ints)
number-both (t ∷ a) b q = let later = number-both a b q in omega (arith, ints)

form-both : (k : ℤ) (a b : Form) (q : ℕ) → form_given k (a ++ b) q ≡ form_given k a q +ℤ form_given k b q
form-both k a b q = ap (λ (n : ℤ). k *ℤ n) (number-both a b q) ∙ times-sum k (number_in a q) (number_in b q)

given-both : (all first later : ℕ → ℤ) (start mid after : List ℤ) → IsSplit all first later → AreGivenMore first start mid
    → AreGivenMore later mid after → AreGivenMore all start after
given-both all first later start mid after split one two q = omega (arith, ints, split q, one q, two q)

pub forms-given : (k : ℤ) (a b : Form) (start mid after : List ℤ) → AreGivenMore (form_given k a) start mid
    → AreGivenMore (form_given k b) mid after → AreGivenMore (form_given k (a ++ b)) start after
forms-given k a b start mid after = given-both (form_given k (a ++ b)) (form_given k a) (form_given k b) start mid after (form-both k a b)

-- terms added up as they stand
pub terms-step : (form : Form) (i : ℕ) (d : ℕ × ℤ) (start before after : List ℤ) → i < length form
    → AreGivenMore (at_place (get_or form i d).0 (get_or form i d).1) before after
    → ((q : ℕ) → number_at before q +ℤ number_in (drop i form) q ≡ number_at start q +ℤ number_in form q) → (q : ℕ)
    → number_at after q +ℤ number_in (drop (i + 1) form) q ≡ number_at start q +ℤ number_in form q
terms-step form i d start before after l more h =
    given-step (number_in (drop i form)) (at_place (get_or form i d).0 (get_or form i d).1) (number_in (drop (i + 1) form)) start before
    after (number_in form) (λ q. ap (λ (f : Form). number_in f q) (rest form i d l)) more h

-- ---------- the second side of a split ----------

pub negated : (b : Bool) (n : ℤ) → cond b (neg_ℤ n) (pos 0) ≡ neg_ℤ (cond b n (pos 0))
negated true n = refl
negated false n = refl

pub negated-in : (form : Form) (most : ℤ) (q : ℕ) → number_in (side true form most).form q ≡ neg_ℤ (number_in form q)
negated-in [] most q = refl
negated-in (t ∷ form) most q = omega (arith, ints, negated (t.0 == q) t.1, negated-in form most q)

-- ---------- taking all ----------

pub number-last : (form : Form) (t : ℕ × ℤ) (q : ℕ) → number_in (form ++ t ∷ []) q ≡ number_in form q +ℤ at_place t.0 t.1 q
number-last [] t q = omega (arith, ints)
number-last (s ∷ form) t q = let later = number-last form t q in omega (arith, ints)

pub taken-pushed : (all : ℕ → ℤ) (form next : Form) (t : ℕ × ℤ) (before after : List ℤ) → IsTaken (Some t) before after
    → next ≡ form ++ t ∷ [] → ((q : ℕ) → all q ≡ number_in form q +ℤ number_at before q) → (q : ℕ)
    → all q ≡ number_in next q +ℤ number_at after q
taken-pushed all form next t before after taken e h q =
    let pushed : number_in next q ≡ number_in form q +ℤ at_place t.0 t.1 q = ap (λ (f : Form). number_in f q) e ∙ number-last form t q in
    omega (arith, ints, taken.1 q, h q)
