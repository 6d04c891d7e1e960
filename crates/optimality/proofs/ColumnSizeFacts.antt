-- Sizes of what columns contribute.
use Rattle.std.proofs.Common.{◌≡◌, ℕ, zero, suc, ◌+◌, ◌*◌, ◌^◌, ◌<◌, ◌≤◌, Bool, true, false, List, [], ◌∷◌, Some, inl, inr}
use Rattle.std.proofs.Common.{length, slice_get, refl, ap, arith, ℤ, pos, ◌+ℤ◌}
use Rattle.std.specs.Prelude.{◌⊎◌, ◌*ℤ◌, ◌-ℤ◌, Option, None, FitsSigned, int_lt, if◌then◌else◌, unsigned_abs}
use Rattle.std.specs.List.{zip}
use Rattle.std.specs.Option.{option_map, option_map_or}
use native.Mathlib.Nat.{mul-le-mul_left}
use mir.Syntax.{w128}
use Rattle.std.proofs.lemmas.Int.{fits_signed_from_abs, ints, unsigned_abs-mul}
use Rattle.program_rows.specs.declared.column.Bounds.{Bounds}
use Rattle.program_rows.specs.declared.column.Bounds.TheVariants.{ZeroOrOne, Zero, One}
use Rattle.program_rows.specs.Program.{Table, TableRow, TableColumn}
use Rattle.program_rows.specs.Parts.{IsProgram}
use Rattle.optimality.specs.Certificates.{Form, Cut, number_in}
use Rattle.optimality.specs.Reduced.{least_part, right_side_at}
use Rattle.optimality.specs.Sizes.{coefficients_size, costs_size, cut_size, leaf_size, row_size, size_of}
use Rattle.optimality.specs.inside.Sizes.{form_size}
use Rattle.optimality.specs.Adding.{number_at, IsTaken, form_at, least_alone}
use Rattle.optimality.specs.inside.Adding.{AreNoLarger, change_at, cuts_given, rows_given, sizes_below}
use Rattle.optimality.specs.RowForms.{row_forms}
use Rattle.optimality.specs.inside.Stopping.{given_size, right_size}
use Rattle.optimality.proofs.ColumnSumFacts.{cuts_right, rows_right}
use Rattle.optimality.proofs.PlaceSizeFacts.{below-taken, below-taken-from, given-within, no-larger}
use Rattle.optimality.proofs.RowSizeFacts.{row-form-within}
use Rattle.optimality.proofs.SizeFacts.{abs-sum, cut-within, cut-right-within, row-right-within, sum-within}

-- ---------- one column ----------

lesser : (b : Bool) (n : ℤ) → unsigned_abs (if b then n else pos 0) ≤ unsigned_abs n
lesser true n = omega arith
lesser false n = omega arith

pub part-size : (b : Bounds) (n : ℤ) → unsigned_abs (least_part b n) ≤ unsigned_abs n
part-size ZeroOrOne n = lesser (int_lt n (pos 0)) n
part-size _ n = omega arith

apart : (a b : Bool) (n m : ℤ) → int_lt (m +ℤ n) (pos 0) ≡ a → int_lt m (pos 0) ≡ b
    → unsigned_abs ((if a then m +ℤ n else pos 0) -ℤ (if b then m else pos 0)) ≤ unsigned_abs n
apart true true n m e f = omega (arith, ints)
apart true false n m e f = omega (arith, ints)
apart false true n m e f = omega (arith, ints)
apart false false n m e f = omega (arith, ints)

-- a number changes what a column contributes by no more than itself
pub part-apart : (b : Bounds) (m n : ℤ) → unsigned_abs (least_part b (m +ℤ n) -ℤ least_part b m) ≤ unsigned_abs n
part-apart ZeroOrOne m n = apart (int_lt (m +ℤ n) (pos 0)) (int_lt m (pos 0)) n m refl refl
part-apart Zero m n = omega arith
part-apart One m n = omega (arith, ints)

pub cost-size : (cs : List TableColumn) (place : ℕ) (n : ℤ) → option_map (λ c. c.cost) (slice_get cs place) ≡ Some n → unsigned_abs n ≤ costs_size cs
cost-size [] place n h = absurd cc
cost-size (c ∷ cs) zero n h = let same : c.cost ≡ n = cc in let is : unsigned_abs c.cost ≡ unsigned_abs n = ap unsigned_abs same in omega arith
cost-size (c ∷ cs) (suc place) n h = let later = cost-size cs place n h in omega arith

pub alone-size : (cs : List TableColumn) → unsigned_abs (least_alone cs) ≤ costs_size cs
alone-size cs = sum-within (λ (c : TableColumn). least_part c.bounds c.cost) (λ (c : TableColumn). unsigned_abs c.cost) (λ c. part-size c.bounds c.cost) cs

pub scaled-size : (scale m : ℕ) (n : ℤ) → unsigned_abs n ≤ m → unsigned_abs (pos scale *ℤ n) ≤ scale * m
scaled-size scale m n h =
    let more : scale * unsigned_abs n ≤ scale * m = mul-le-mul_left scale h in
    omega (arith, unsigned_abs-mul (pos scale) n)

-- ---------- taking all ----------

-- what a taken place changes, and what is left
pub change-below : (cs : List TableColumn) (factor : ℤ) (place : ℕ) (n : ℤ) (before after : List ℤ) → IsTaken (Some (place, n)) before after
    → sizes_below (length cs) after + unsigned_abs (change_at cs factor place n) ≤ sizes_below (length cs) before
change-below cs factor place n before after taken = by (slice_get cs place) refl
  where
    within : (cs : List TableColumn) (k : ℕ) (c : TableColumn) → slice_get cs k ≡ Some c → k < length cs
    within [] k c h = absurd cc
    within (d ∷ cs) zero c h = omega arith
    within (d ∷ cs) (suc k) c h = let later = within cs k c h in omega arith

    by : (o : Option TableColumn) → slice_get cs place ≡ o
        → sizes_below (length cs) after + unsigned_abs (option_map_or
        (λ c. least_part c.bounds (factor *ℤ c.cost +ℤ n) -ℤ least_part c.bounds (factor *ℤ c.cost)) o (pos 0)) ≤ sizes_below
        (length cs) before
    by None e = let less = below-taken (length cs) before after (place, n) taken in omega arith
    by (Some c) e = omega (arith, below-taken-from (length cs) before after (place, n) taken (within cs place c e), part-apart c.bounds (factor *ℤ c.cost) n)

-- what stops the total is reached by the costs and the sums
pub by-either : (cs : List TableColumn) (scale place : ℕ) (n total : ℤ) (before after start : List ℤ)
    → IsTaken (Some (place, n)) before after → sizes_below (length cs) before ≤ sizes_below (length cs) start
    → unsigned_abs total + sizes_below (length cs) before ≤ scale * costs_size cs + sizes_below (length cs) start
    → ((place < length cs) × (2 ^ 126 ≤ scale * costs_size cs + unsigned_abs n))
    ⊎ (2 ^ 126 ≤ unsigned_abs total + unsigned_abs (change_at cs (pos scale) place n))
    → 2 ^ 126 ≤ scale * costs_size cs + sizes_below (length cs) start
by-either cs scale place n total before after start taken held room (inl large) =
    omega (arith, large.1, below-taken-from (length cs) before after (place, n) taken large.0)
by-either cs scale place n total before after start taken held room (inr large) = omega (arith, change-below cs (pos scale) place n before after taken)

-- ---------- the parts of a leaf ----------

rows-below : (p : Table) → IsProgram p → (rows : Form)
    → size_of (λ t. unsigned_abs t.1 * form_size (form_at (row_forms p) t.0)) rows
    ≤ size_of (λ t. unsigned_abs t.1 * coefficients_size p.columns t.0) rows
rows-below p h [] = omega arith
rows-below p h (t ∷ rows) =
    let first : unsigned_abs t.1 * form_size (form_at (row_forms p) t.0) ≤ unsigned_abs t.1 * coefficients_size p.columns t.0 =
    mul-le-mul_left (unsigned_abs t.1) (row-form-within p h t.0) in
    omega (arith, rows-below p h rows)

-- what is reached by the forms of rows is reached by their coefficients
pub given-reached : (p : Table) → IsProgram p → (ys : List ℕ) (cuts : List Cut) (rows : Form) (n : ℤ) (q : ℕ) → n ≡ cuts_given ys cuts q
    → 2 ^ 126 ≤ unsigned_abs n + size_of (λ t. unsigned_abs t.1 * form_size (form_at (row_forms p) t.0)) rows
    → 2 ^ 126 ≤ given_size p.columns ys cuts rows
given-reached p h ys cuts rows n q e large =
    let of_cuts = sum-within (λ (e : ℕ × Cut). pos e.0 *ℤ number_in e.1.form q) (λ (e : ℕ × Cut). e.0 * form_size e.1.form) (cut-within q) (zip ys cuts) in
    let is : unsigned_abs n ≡ unsigned_abs (cuts_given ys cuts q) = ap unsigned_abs e in
    omega (arith, rows-below p h rows)

pub sizes-given : (p : Table) → IsProgram p → (m : ℕ) (ys : List ℕ) (cuts : List Cut) (rows : Form) (numbers : List ℤ)
    → ((q : ℕ) → number_at numbers q ≡ cuts_given ys cuts q +ℤ rows_given rows (row_forms p) q)
    → sizes_below m numbers ≤ given_size p.columns ys cuts rows
sizes-given p h m ys cuts rows numbers given = omega (arith, given-within m ys cuts rows (row_forms p) numbers given, rows-below p h rows)

pub right-within : (table : List TableRow) (ys : List ℕ) (cuts : List Cut) (rows : Form)
    → unsigned_abs (cuts_right ys cuts) + unsigned_abs (rows_right table rows) ≤ right_size table ys cuts rows
right-within table ys cuts rows =
    let of_cuts = sum-within (λ (e : ℕ × Cut). pos e.0 *ℤ e.1.most) (λ (e : ℕ × Cut). e.0 * unsigned_abs e.1.most) cut-right-within (zip ys cuts) in
    let of_rows = sum-within (λ (t : ℕ × ℤ). t.1 *ℤ right_side_at table t.0)
    (λ (t : ℕ × ℤ). unsigned_abs t.1 * unsigned_abs (right_side_at table t.0)) (row-right-within table) rows in
    omega arith

cuts-both : (es : List (ℕ × Cut)) → size_of (λ e. e.0 * form_size e.1.form) es + size_of (λ e. e.0 * unsigned_abs e.1.most) es
    ≡ size_of (λ e. e.0 * cut_size e.1) es
cuts-both [] = refl
cuts-both (e ∷ es) = let later = cuts-both es in omega arith

rows-both : (p : Table) (rows : Form) → size_of (λ t. unsigned_abs t.1 * coefficients_size p.columns t.0) rows + size_of
    (λ t. unsigned_abs t.1 * unsigned_abs (right_side_at p.rows t.0)) rows ≡ size_of (λ t. unsigned_abs t.1 * row_size p t.0) rows
rows-both p [] = refl
rows-both p (t ∷ rows) = let later = rows-both p rows in omega arith

-- the parts of a leaf, whose rows are added up, are no larger than the leaf that is named
pub leaf-parts : (p : Table) (least : ℤ) (cuts : List Cut) (scale : ℕ) (ys : List ℕ) (rows parsed : Form) → AreNoLarger rows parsed
    → (scale * costs_size p.columns + given_size p.columns ys cuts rows) + right_size p.rows ys cuts rows ≤ leaf_size p least cuts scale ys parsed
leaf-parts p least cuts scale ys rows parsed less =
    let fewer : size_of (λ t. unsigned_abs t.1 * row_size p t.0) rows ≤ size_of (λ t. unsigned_abs t.1 * row_size p t.0) parsed =
    no-larger rows parsed (row_size p) less in
    omega (arith, cuts-both (zip ys cuts), rows-both p rows)

-- ---------- sums of costs ----------

-- a cost more, where there are as many as places
pub sum-room : (sum n : ℤ) (place end : ℕ) → unsigned_abs sum ≤ 1 + place * 2 ^ 63 → unsigned_abs n ≤ 2 ^ 63 → place < end → end < 2 ^ 64
    → FitsSigned w128 (sum +ℤ n)
sum-room sum n place end h small l room =
    let both = abs-sum sum n in
    let less : unsigned_abs (sum +ℤ n) < 2 ^ 127 = omega arith in
    fits_signed_from_abs w128 (sum +ℤ n) less
