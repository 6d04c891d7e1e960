-- Sums over the columns at 1, of numbers that go by column and place.
use Rattle.std.proofs.Common.{◌≡◌, ℕ, zero, suc, ◌+◌, ◌<◌, Bool, true, false, cond, List, [], ◌∷◌, length, slice_index_or}
use Rattle.std.proofs.Common.{refl, sym, ap, ◌∙◌, arith, ℤ, pos, ◌+ℤ◌}
use Rattle.optimality.proofs.PlaceFacts.{times-at}
use Rattle.std.specs.Prelude.{◌*ℤ◌, ◌==◌}
use Rattle.std.specs.List.{enumerate_from, zip}
use Rattle.std.proofs.lemmas.Int.{ints}
use Rattle.std.proofs.lemmas.Bool.Decides.{nat_tests}
use lib.IntN.{*ℤ-zero}
use Rattle.program_rows.specs.Program.{TableRow, TableColumn}
use Rattle.program_rows.specs.Points.{sum_at_one, AreAllowed, coefficient_at}
use Rattle.optimality.specs.Certificates.{Form, Cut, number_in, sum_of}
use Rattle.optimality.specs.Reduced.{least_part, right_side_at}
use Rattle.optimality.specs.inside.Certificates.{form_sum}
use Rattle.optimality.proofs.ProductFacts.{times-sum}

abbrev pub sum_over : (ℕ → TableColumn → ℤ) → ℕ → List TableColumn → List Bool → ℤ
sum_over f p [] values = pos 0
sum_over f p (c ∷ cs) [] = pos 0
sum_over f p (c ∷ cs) (v ∷ vs) = cond v (f p c) (pos 0) +ℤ sum_over f (p + 1) cs vs

one_sum : (v : Bool) (a b s t u : ℤ) → u ≡ s +ℤ t → cond v (a +ℤ b) (pos 0) +ℤ u ≡ (cond v a (pos 0) +ℤ s) +ℤ (cond v b (pos 0) +ℤ t)
one_sum true a b s t u e = omega (arith, ints)
one_sum false a b s t u e = omega (arith, ints)

-- what the columns contribute at least, from the column at a place on
abbrev pub least_sum : (ℕ → TableColumn → ℤ) → ℕ → List TableColumn → ℤ
least_sum f p cs = sum_of (λ e. least_part e.1.bounds (f e.0 e.1)) (enumerate_from p cs)

-- what cuts give the column at a place, and what rows give a column
abbrev pub cuts_number : List ℕ → List Cut → ℕ → ℤ
cuts_number ys cuts place = sum_of (λ e. pos e.0 *ℤ number_in e.1.form place) (zip ys cuts)

abbrev pub rows_number : Form → TableColumn → ℤ
rows_number rows c = sum_of (λ t. t.1 *ℤ coefficient_at t.0 c) rows

-- their right sides
abbrev pub cuts_right : List ℕ → List Cut → ℤ
cuts_right ys cuts = sum_of (λ e. pos e.0 *ℤ e.1.most) (zip ys cuts)

abbrev pub rows_right : List TableRow → Form → ℤ
rows_right table rows = sum_of (λ t. t.1 *ℤ right_side_at table t.0) rows

-- of sums
pub over-sum : (f g : ℕ → TableColumn → ℤ) (p : ℕ) (cs : List TableColumn) (vs : List Bool)
    → sum_over (λ q c. f q c +ℤ g q c) p cs vs ≡ sum_over f p cs vs +ℤ sum_over g p cs vs
over-sum f g p (c ∷ cs) (v ∷ vs) = one_sum v (f p c) (g p c) (sum_over f (p + 1) cs vs) (sum_over g (p + 1) cs vs)
    (sum_over (λ q d. f q d +ℤ g q d) (p + 1) cs vs) (over-sum f g (p + 1) cs vs)
over-sum f g p _ _ = omega (arith, ints)

-- of multiples
pub over-times : (k : ℤ) (f : ℕ → TableColumn → ℤ) (p : ℕ) (cs : List TableColumn) (vs : List Bool)
    → sum_over (λ q c. k *ℤ f q c) p cs vs ≡ k *ℤ sum_over f p cs vs
over-times k f p (c ∷ cs) (v ∷ vs) =
    ap (λ (n : ℤ). n +ℤ sum_over (λ q d. k *ℤ f q d) (p + 1) cs vs) (times-at k (f p c) v)
    ∙ ap (λ (n : ℤ). k *ℤ cond v (f p c) (pos 0) +ℤ n) (over-times k f (p + 1) cs vs)
    ∙ sym (times-sum k (cond v (f p c) (pos 0)) (sum_over f (p + 1) cs vs))
over-times k f p _ _ = sym (*ℤ-zero k)

-- of nothing
pub over-none : (p : ℕ) (cs : List TableColumn) (vs : List Bool) → sum_over (λ q c. pos 0) p cs vs ≡ pos 0
over-none p (c ∷ cs) (true ∷ vs) = rw (over-none (p + 1) cs vs) refl
over-none p (c ∷ cs) (false ∷ vs) = rw (over-none (p + 1) cs vs) refl
over-none p _ _ = refl

-- of numbers that go by column alone
pub over-columns : (f : TableColumn → ℤ) (p : ℕ) (cs : List TableColumn) (vs : List Bool) → sum_over (λ q c. f c) p cs vs ≡ sum_at_one f cs vs
over-columns f p (c ∷ cs) (true ∷ vs) = ap (λ (n : ℤ). f c +ℤ n) (over-columns f (p + 1) cs vs)
over-columns f p (c ∷ cs) (false ∷ vs) =
    let rest : sum_over (λ q d. f d) (p + 1) cs vs ≡ sum_at_one f cs vs = over-columns f (p + 1) cs vs in omega (arith, ints)
over-columns f p _ _ = refl

-- of a number that one place has
abbrev at_place : ℕ → ℤ → ℕ → TableColumn → ℤ
at_place k n q c = cond (k == q) n (pos 0)

nothing : (v : Bool) (n : ℤ) → cond v (cond false n (pos 0)) (pos 0) ≡ pos 0
nothing true n = refl
nothing false n = refl

passed : (k : ℕ) (n : ℤ) (p : ℕ) (cs : List TableColumn) (vs : List Bool) → k < p → sum_over (at_place k n) p cs vs ≡ pos 0
passed k n p (c ∷ cs) (v ∷ vs) h =
    let other : (k == p) ≡ false = grind (arith, nat_tests) in
    rw (other, nothing v n, passed k n (p + 1) cs vs (omega arith)) refl
passed k n p _ _ h = refl

pub over-place : (k : ℕ) (n : ℤ) (p j : ℕ) (cs : List TableColumn) (vs : List Bool) → length vs ≡ length cs → k ≡ p + j
    → sum_over (at_place k n) p cs vs ≡ cond (slice_index_or vs j false) n (pos 0)
over-place k n p j [] [] l e = refl
over-place k n p j [] (v ∷ vs) l e = absurd (omega arith)
over-place k n p j (c ∷ cs) [] l e = refl
over-place k n p zero (c ∷ cs) (v ∷ vs) l e =
    let here : (k == p) ≡ true = grind (arith, nat_tests) in
    let rest : sum_over (at_place k n) (p + 1) cs vs ≡ pos 0 = passed k n (p + 1) cs vs (omega arith) in
    rw (here, rest) (omega (arith, ints))
over-place k n p (suc j) (c ∷ cs) (v ∷ vs) l e =
    let there : (k == p) ≡ false = grind (arith, nat_tests) in
    let rest : sum_over (at_place k n) (p + 1) cs vs ≡ cond (slice_index_or vs j false) n (pos 0) =
    over-place k n (p + 1) j cs vs (omega arith) (omega arith) in
    rw (there, nothing v n, rest) (omega (arith, ints))

-- of a form
pub over-form : (form : Form) (cs : List TableColumn) (vs : List Bool) → length vs ≡ length cs → sum_over (λ q c. number_in form q) 0 cs vs ≡ form_sum form vs
over-form [] cs vs l = over-none 0 cs vs
over-form (t ∷ form) cs vs l =
    over-sum (at_place t.0 t.1) (λ q c. number_in form q) 0 cs vs
    ∙ ap (λ (n : ℤ). n +ℤ sum_over (λ q c. number_in form q) 0 cs vs) (over-place t.0 t.1 0 t.0 cs vs l (omega arith))
    ∙ ap (λ (n : ℤ). cond (slice_index_or vs t.0 false) t.1 (pos 0) +ℤ n) (over-form form cs vs l)

pub allowed-length : (cs : List TableColumn) (vs : List Bool) → AreAllowed cs vs → length vs ≡ length cs
allowed-length [] [] h = refl
allowed-length (c ∷ cs) (v ∷ vs) h = ap suc (allowed-length cs vs h.1)
allowed-length _ _ h = absurd h
