-- The value of a leaf, by what its cuts and rows change of what the costs alone come to.
use Rattle.std.proofs.Common.{◌≡◌, ℕ, zero, suc, ◌+◌, Bool, true, false, List, [], ◌∷◌, Some, drop, slice_get, refl, subst}
use Rattle.std.proofs.Common.{sym, ap, ap₂, ◌∙◌, arith, ℤ, pos, negsuc, ◌+ℤ◌, ◌≢◌}
use Rattle.std.specs.Prelude.{◌*ℤ◌, ◌-ℤ◌, ◌<ℤ◌, ◌≤ℤ◌, ◌==◌, cond, Option, None}
use Rattle.std.specs.Option.{option_map, option_map_or}
use Rattle.std.proofs.lemmas.Bool.Decides.{nat_tests}
use Rattle.std.proofs.lemmas.Int.{ints, by_lt_z}
use lib.IntN.{*ℤ-zero, zero-*ℤ}
use Rattle.program_rows.specs.declared.column.Bounds.{Bounds}
use Rattle.program_rows.specs.declared.column.Bounds.TheVariants.{ZeroOrOne, Zero, One}
use Rattle.program_rows.specs.Program.{Table, TableColumn}
use Rattle.program_rows.specs.Points.{coefficient_at}
use Rattle.program_rows.specs.Parts.{IsProgram}
use Rattle.optimality.specs.Certificates.{Form, Cut, number_in}
use Rattle.optimality.specs.Reduced.{reduced, least_part}
use Rattle.optimality.specs.Adding.{number_at, AreGivenMore, AreNone, IsTaken, at_place}
use Rattle.optimality.specs.inside.Adding.{HaveAll, HaveRows}
use Rattle.optimality.specs.Adding.{form_at, least_alone}
use Rattle.optimality.specs.inside.Adding.{cuts_given, rows_given, least_with, change_at}
use Rattle.optimality.specs.RowForms.{row_forms}
use Rattle.optimality.proofs.ColumnSumFacts.{least_sum, rows_number}
use Rattle.optimality.proofs.ProductFacts.{times-sum, times-natural}
use Rattle.optimality.proofs.RowFacts.{row-form-at}

-- ---------- columns of the same numbers ----------

pub least-same : (f g : ℕ → TableColumn → ℤ) (p : ℕ) (cs : List TableColumn)
    → ((i j : ℕ) (c : TableColumn) → i ≡ p + j → slice_get cs j ≡ Some c → f i c ≡ g i c) → least_sum f p cs ≡ least_sum g p cs
least-same f g p [] same = refl
least-same f g p (c ∷ cs) same =
    ap (λ (k : ℤ). least_part c.bounds k +ℤ least_sum f (p + 1) cs) (same p 0 c (omega arith) refl)
    ∙ ap (λ (k : ℤ). least_part c.bounds (g p c) +ℤ k) (least-same f g (p + 1) cs (λ i j d e h. same i (suc j) d (omega arith) h))

-- ---------- one column changed ----------

abbrev changed : (f g : ℕ → TableColumn → ℤ) → ℕ → ℕ → List TableColumn → ℤ
changed f g place j cs = option_map_or (λ c. least_part c.bounds (f place c) -ℤ least_part c.bounds (g place c)) (slice_get cs j) (pos 0)

one-changed : (f g : ℕ → TableColumn → ℤ) (place p j : ℕ) (cs : List TableColumn) → place ≡ p + j
    → ((q : ℕ) (c : TableColumn) → q ≢ place → f q c ≡ g q c) → least_sum f p cs ≡ changed f g place j cs +ℤ least_sum g p cs
one-changed f g place p j [] e same = omega (arith, ints)
one-changed f g place p zero (c ∷ cs) e same =
    let here : place ≡ p = omega arith in
    let tail : least_sum f (p + 1) cs ≡ least_sum g (p + 1) cs = least-same f g (p + 1) cs (λ i k d at h. same i d (omega arith)) in
    let first : f p c ≡ f place c = ap (λ (k : ℕ). f k c) (sym here) in
    let other : g p c ≡ g place c = ap (λ (k : ℕ). g k c) (sym here) in
    ap₂ (λ (a b : ℤ). least_part c.bounds a +ℤ b) first tail
    ∙ sub-add (least_part c.bounds (f place c)) (least_part c.bounds (g place c)) (least_sum g (p + 1) cs)
    ∙ ap (λ (a : ℤ). (least_part c.bounds (f place c) -ℤ least_part c.bounds (g place c)) +ℤ (least_part c.bounds a +ℤ least_sum g (p + 1) cs)) (sym other)
  where
    sub-add : (a b r : ℤ) → a +ℤ r ≡ (a -ℤ b) +ℤ (b +ℤ r)
    sub-add a b r = omega (arith, ints)
one-changed f g place p (suc j) (c ∷ cs) e same =
    let first : f p c ≡ g p c = same p c (omega arith) in
    let tail = one-changed f g place (p + 1) j cs (omega arith) same in
    ap₂ (λ (a b : ℤ). least_part c.bounds a +ℤ b) first tail ∙ omega (arith, ints)

-- ---------- taking one ----------

abbrev pub with_given : ℤ → (ℕ → ℤ) → ℕ → TableColumn → ℤ
with_given factor given place c = factor *ℤ c.cost +ℤ given place

unchanged-elsewhere : (before after : List ℤ) (place : ℕ) (n : ℤ) (q : ℕ) → q ≢ place
    → number_at before q ≡ number_at after q +ℤ at_place place n q → number_at before q ≡ number_at after q
unchanged-elsewhere before after place n q other e = e ∙ by (place == q) refl
  where
    by : (b : Bool) → (place == q) ≡ b → number_at after q +ℤ cond b n (pos 0) ≡ number_at after q
    by true t = let same : q ≡ place = grind (arith, nat_tests) in absurd (other same)
    by false t = omega (arith, ints)

at-itself : (place : ℕ) (n : ℤ) → at_place place n place ≡ n
at-itself place n = let same : (place == place) ≡ true = grind (arith, nat_tests) in rw same refl

-- what the column of a taken place contributes now, and by how much that is less
pub least-taken : (factor : ℤ) (cs : List TableColumn) (place : ℕ) (n : ℤ) (before after : List ℤ) → IsTaken (Some (place, n)) before after
    → least_with factor (number_at before) cs ≡ change_at cs factor place n +ℤ least_with factor (number_at after) cs
least-taken factor cs place n before after taken =
    let f = with_given factor (number_at before) in
    let g = with_given factor (number_at after) in
    one-changed f g place 0 place cs (omega arith) (λ q c other. ap (λ (m : ℤ). factor *ℤ c.cost +ℤ m)
    (unchanged-elsewhere before after place n q other (taken.1 q)))
    ∙ ap (λ (m : ℤ). m +ℤ least_with factor (number_at after) cs) (by (slice_get cs place))
  where
    was : number_at before place ≡ n
    was = let split = taken.1 place in let now = taken.0 in let here = at-itself place n in omega (arith, ints)

    by : (o : Option TableColumn) → option_map_or (λ c. least_part c.bounds (factor *ℤ c.cost +ℤ number_at before place) -ℤ least_part
        c.bounds (factor *ℤ c.cost +ℤ number_at after place)) o (pos 0)
        ≡ option_map_or (λ c. least_part c.bounds (factor *ℤ c.cost +ℤ n) -ℤ least_part c.bounds (factor *ℤ c.cost)) o (pos 0)
    by None = refl
    by (Some c) =
        ap₂ (λ (a b : ℤ). least_part c.bounds (factor *ℤ c.cost +ℤ a) -ℤ least_part c.bounds b) was
        (ap (λ (a : ℤ). factor *ℤ c.cost +ℤ a) taken.0 ∙ omega (arith, ints))

pub total-step : (factor : ℤ) (cs : List TableColumn) (place : ℕ) (n : ℤ) (before after start : List ℤ) (total next alone : ℤ)
    → IsTaken (Some (place, n)) before after → next ≡ total +ℤ change_at cs factor place n
    → total +ℤ least_with factor (number_at before) cs ≡ alone +ℤ least_with factor (number_at start) cs
    → next +ℤ least_with factor (number_at after) cs ≡ alone +ℤ least_with factor (number_at start) cs
total-step factor cs place n before after start total next alone taken e h = omega (arith, ints, least-taken factor cs place n before after taken)

-- with nothing left
pub total-end : (factor : ℤ) (cs : List TableColumn) (numbers start : List ℤ) (total alone : ℤ) → AreNone numbers
    → total +ℤ least_with factor (number_at numbers) cs ≡ alone +ℤ least_with factor (number_at start) cs
    → total +ℤ least_with factor (λ _. pos 0) cs ≡ alone +ℤ least_with factor (number_at start) cs
total-end factor cs numbers start total alone none h =
    let same : least_with factor (number_at numbers) cs ≡ least_with factor (λ _. pos 0) cs =
    least-same (with_given factor (number_at numbers)) (with_given factor (λ _. pos 0)) 0 cs (λ i j c e at. ap (λ (m : ℤ). factor *ℤ c.cost +ℤ m) (none i)) in
    omega (arith, ints)

-- what the code computes of a column
pub change-is : (cs : List TableColumn) (factor : ℤ) (place : ℕ) (number : ℤ) (b : Bounds) (cost product sum now was n : ℤ)
    → option_map (λ c. c.bounds) (slice_get cs place) ≡ Some b → option_map (λ c. c.cost) (slice_get cs place) ≡ Some cost
    → product ≡ factor *ℤ cost → sum ≡ product +ℤ number → now ≡ least_part b sum → was ≡ least_part b product → n ≡ now -ℤ was
    → n ≡ change_at cs factor place number
change-is cs factor place number b cost product sum now was n of_bounds of_cost p s after before e =
    e ∙ ap₂ (λ (x y : ℤ). x -ℤ y) (after ∙ ap (λ (x : ℤ). least_part b x) (s ∙ ap (λ (x : ℤ). x +ℤ number) p)) (before ∙ ap (λ (x : ℤ). least_part b x) p)
    ∙ by (slice_get cs place) of_bounds of_cost
  where
    by : (o : Option TableColumn) → option_map (λ c. c.bounds) o ≡ Some b → option_map (λ c. c.cost) o ≡ Some cost
        → least_part b (factor *ℤ cost +ℤ number) -ℤ least_part b (factor *ℤ cost)
        ≡ option_map_or (λ c. least_part c.bounds (factor *ℤ c.cost +ℤ number) -ℤ least_part c.bounds (factor *ℤ c.cost)) o (pos 0)
    by None x y = absurd cc
    by (Some c) x y =
        let same_bounds : c.bounds ≡ b = cc in
        let same_cost : c.cost ≡ cost = cc in
        ap₂ (λ (d : Bounds) (k : ℤ). least_part d (factor *ℤ k +ℤ number) -ℤ least_part d (factor *ℤ k)) (sym same_bounds) (sym same_cost)

-- ---------- the costs alone ----------

-- what a column that may be 0 or 1 contributes
abbrev part : ℤ → ℤ
part n = least_part ZeroOrOne n

part-below : (n : ℤ) → n <ℤ pos 0 → part n ≡ n
part-below n h = grind (arith, ints)

part-above : (n : ℤ) → pos 0 ≤ℤ n → part n ≡ pos 0
part-above n h = grind (arith, ints)

below-none : (k : ℕ) (n : ℤ) → n <ℤ pos 0 → (pos (suc k) *ℤ n) <ℤ pos 0
below-none k (pos n) h = absurd (omega (arith, ints))
below-none k (negsuc n) h = omega (arith, ints)

scaled-part : (b : Bounds) (k : ℕ) (n : ℤ) → least_part b (pos k *ℤ n) ≡ pos k *ℤ least_part b n
scaled-part One k n = refl
scaled-part Zero k n = sym (*ℤ-zero (pos k))
scaled-part ZeroOrOne k n = by_lt_z n (pos 0) (negative k) (λ more. let up : (pos k *ℤ pos 0) ≤ℤ (pos k *ℤ n) = times-natural k (pos 0) n
    more in part-above (pos k *ℤ n) (omega (arith, ints, *ℤ-zero (pos k))) ∙ sym (*ℤ-zero (pos k))
    ∙ ap (λ (m : ℤ). pos k *ℤ m) (sym (part-above n more)))
  where
    negative : (k : ℕ) → n <ℤ pos 0 → part (pos k *ℤ n) ≡ pos k *ℤ part n
    negative zero less = rw (zero-*ℤ n, zero-*ℤ (part n)) refl
    negative (suc k) less = part-below (pos (suc k) *ℤ n) (below-none k n less) ∙ ap (λ (m : ℤ). pos (suc k) *ℤ m) (sym (part-below n less))

least-scaled : (scale p : ℕ) (cs : List TableColumn) → least_sum (with_given (pos scale) (λ _. pos 0)) p cs ≡ pos scale *ℤ least_alone cs
least-scaled scale p [] = sym (*ℤ-zero (pos scale))
least-scaled scale p (c ∷ cs) =
    let first : least_part c.bounds (pos scale *ℤ c.cost +ℤ pos 0) ≡ pos scale *ℤ least_part c.bounds c.cost =
    ap (λ (n : ℤ). least_part c.bounds n) (plus-none (pos scale *ℤ c.cost)) ∙ scaled-part c.bounds scale c.cost in
    ap₂ (λ (a b : ℤ). a +ℤ b) first (least-scaled scale (p + 1) cs) ∙ sym (times-sum (pos scale) (least_part c.bounds c.cost) (least_alone cs))
  where
    plus-none : (n : ℤ) → n +ℤ pos 0 ≡ n
    plus-none n = omega (arith, ints)

alone_there : (i : ℕ) (cs : List TableColumn) (n : ℤ) → option_map (λ c. least_part c.bounds c.cost) (slice_get cs i) ≡ Some n
    → least_alone (drop i cs) ≡ n +ℤ least_alone (drop (suc i) cs)
alone_there i [] n h = absurd cc
alone_there zero (c ∷ cs) n h = let here : least_part c.bounds c.cost ≡ n = cc in ap (λ (m : ℤ). m +ℤ least_alone cs) here
alone_there (suc i) (c ∷ cs) n h = alone_there i cs n h

pub alone-step : (i : ℕ) (cs : List TableColumn) (sum next n all : ℤ) → option_map (λ c. least_part c.bounds c.cost) (slice_get cs i) ≡ Some n → next ≡ sum +ℤ n
    → sum +ℤ least_alone (drop i cs) ≡ all → next +ℤ least_alone (drop (i + 1) cs) ≡ all
alone-step i cs sum next n all e s h =
    let place : i + 1 ≡ suc i = omega arith in
    let after : drop (i + 1) cs ≡ drop (suc i) cs = ap (λ (k : ℕ). drop k cs) place in
    let there : least_alone (drop i cs) ≡ n +ℤ least_alone (drop (suc i) cs) = alone_there i cs n e in
    let moved : next +ℤ least_alone (drop (suc i) cs) ≡ all = omega (arith, ints) in
    rw after moved

-- ---------- the whole ----------

rows-at : (rows : Form) (forms : List Form) (i : ℕ) (c : TableColumn) → ((row : ℕ) → number_in (form_at forms row) i ≡ coefficient_at row c)
    → rows_given rows forms i ≡ rows_number rows c
rows-at [] forms i c same = refl
rows-at (t ∷ rows) forms i c same = ap₂ (λ (a b : ℤ). t.1 *ℤ a +ℤ b) (same t.0) (rows-at rows forms i c same)

-- rows as forms give each column a multiple of its coefficients
pub rows-have : (p : Table) (rows : Form) (before after : List ℤ) → IsProgram p → AreGivenMore (rows_given rows (row_forms p)) before after
    → HaveRows p rows before after
rows-have p rows before after h more place c at =
    more place ∙ ap (λ (n : ℤ). number_at before place +ℤ n) (rows-at rows (row_forms p) place c (λ row. row-form-at p h row place c at))

-- rows, added to what cuts give
pub all-have : (p : Table) (ys : List ℕ) (cuts : List Cut) (rows : Form) (none before after : List ℤ) → AreNone none
    → AreGivenMore (cuts_given ys cuts) none before → HaveRows p rows before after → HaveAll p ys cuts rows after
all-have p ys cuts rows none before after zeros of_cuts of_rows place c at =
    let nothing = zeros place in
    let first = of_cuts place in
    let second = of_rows place c at in
    omega (arith, ints)

-- the least that the columns come to by what they are given
pub given-is : (p : Table) (scale : ℕ) (ys : List ℕ) (cuts : List Cut) (rows : Form) (numbers : List ℤ) → HaveAll p ys cuts rows numbers
    → least_with (pos scale) (number_at numbers) p.columns ≡ least_sum (reduced scale ys cuts rows) 0 p.columns
given-is p scale ys cuts rows numbers given =
    least-same (with_given (pos scale) (number_at numbers)) (reduced scale ys cuts rows) 0 p.columns
    (λ i j c place at.
    let there : slice_get p.columns i ≡ Some c = subst (λ (k : ℕ). slice_get p.columns k ≡ Some c) (omega arith) at in
    let all = given i c there in
    omega (arith, ints))

-- what the code computes of a column
pub given-cost : (scale : ℤ) (cs : List TableColumn) (place : ℕ) (cost given n : ℤ) → option_map (λ c. c.cost) (slice_get cs place) ≡ Some cost
    → n ≡ given +ℤ scale *ℤ cost → option_map (λ c. scale *ℤ c.cost +ℤ given) (slice_get cs place) ≡ Some n
given-cost scale cs place cost given n k s = by (slice_get cs place) k
  where
    by : (o : Option TableColumn) → option_map (λ c. c.cost) o ≡ Some cost → option_map (λ c. scale *ℤ c.cost +ℤ given) o ≡ Some n
    by None x = absurd cc
    by (Some c) x =
        let same : c.cost ≡ cost = cc in
        let of_cost : scale *ℤ c.cost ≡ scale *ℤ cost = ap (λ (m : ℤ). scale *ℤ m) same in
        let all : scale *ℤ c.cost +ℤ given ≡ n = omega (arith, ints) in
        ap Some all

pub least-is : (p : Table) (scale : ℕ) (ys : List ℕ) (cuts : List Cut) (rows : Form) (numbers : List ℤ) → IsProgram p
    → ((q : ℕ) → number_at numbers q ≡ cuts_given ys cuts q +ℤ rows_given rows (row_forms p) q)
    → (n : ℤ) → n +ℤ least_with (pos scale) (λ _. pos 0) p.columns ≡ pos scale *ℤ least_alone p.columns +ℤ least_with (pos scale) (number_at numbers) p.columns
    → n ≡ least_sum (reduced scale ys cuts rows) 0 p.columns
least-is p scale ys cuts rows numbers h given n e =
    let alone = least-scaled scale 0 p.columns in
    let total : n ≡ least_with (pos scale) (number_at numbers) p.columns = omega (arith, ints) in
    total ∙ given-is p scale ys cuts rows numbers
    (λ place c at. given place ∙ ap (λ (m : ℤ). cuts_given ys cuts place +ℤ m) (rows-at rows (row_forms p) place c (λ row. row-form-at p h row place c at)))
