-- What a certificate shows holds at each point.
use Rattle.std.proofs.Common.{◌≡◌, ℕ, zero, suc, ◌+◌, Bool, true, false, cond, List, [], ◌∷◌, ◌++◌, Option, Some, None}
use Rattle.std.proofs.Common.{length, slice_get, slice_index_or, refl, subst, ap, ◌∙◌, arith, ℤ, pos, neg_ℤ, ◌+ℤ◌, ◌-ℤ◌}
use Rattle.std.proofs.Common.{◌≤ℤ◌, ◌<ℤ◌}
use Rattle.optimality.proofs.PlaceFacts.{negated}
use Rattle.std.specs.Prelude.{◌*ℤ◌, int_lt, if◌then◌else◌}
use Rattle.std.specs.Option.{option_map_or}
use Rattle.std.specs.List.{AllByRecursion, enumerate_from}
use Rattle.std.proofs.lemmas.Int.{ints, by_lt_z}
use Rattle.std.proofs.lemmas.Bool.Decides.{Decides-int_eq}
use Rattle.program_rows.specs.declared.row.RowKind.{RowKind}
use Rattle.program_rows.specs.declared.row.RowKind.TheVariants.{AtMost, AtLeast, Equal}
use Rattle.program_rows.specs.declared.column.Bounds.{Bounds}
use Rattle.program_rows.specs.declared.column.Bounds.TheVariants.{ZeroOrOne, Zero, One}
use Rattle.program_rows.specs.Program.{Table, TableRow, TableColumn}
use Rattle.program_rows.specs.Points.{IsPoint, AreAllowed, allows, objective, row_sum, coefficient_at, meets}
use Rattle.optimality.specs.Certificates.{Form, Cut, Certificate, Bound, Split, number_in, side}
use Rattle.optimality.specs.inside.Certificates.{form_sum}
use Rattle.optimality.specs.Reduced.{reduced, least_part, right_side_at}
use Rattle.optimality.specs.Shows.{has_sign, may_have, leaf_value, LeafShows, ShowsWithin}
use Rattle.optimality.specs.Laws.{ShownIsBound}
use Rattle.optimality.proofs.ProductFacts.{times-natural, times-up, times-down, times-cancel, at_most}
use Rattle.optimality.proofs.ColumnSumFacts.{cuts_number, cuts_right, least_sum, rows_number, rows_right, sum_over}
use Rattle.optimality.proofs.ColumnSumFacts.{over-sum, over-times, over-none, over-columns, over-form, allowed-length}

-- ---------- columns ----------

lesser : (b v : Bool) (n : ℤ) → int_lt n (pos 0) ≡ b → (if b then n else pos 0) ≤ℤ cond v n (pos 0)
lesser true true n e = omega (arith, ints)
lesser true false n e = omega (arith, ints)
lesser false true n e = omega (arith, ints)
lesser false false n e = omega (arith, ints)

below : (b : Bounds) (v : Bool) (n : ℤ) → allows b v ≡ true → least_part b n ≤ℤ cond v n (pos 0)
below ZeroOrOne v n h = lesser (int_lt n (pos 0)) v n refl
below Zero false n h = omega (arith, ints)
below One true n h = omega (arith, ints)
below _ _ n h = absurd (cc)

pub least-below : (f : ℕ → TableColumn → ℤ) (p : ℕ) (cs : List TableColumn) (vs : List Bool) → AreAllowed cs vs → least_sum f p cs ≤ℤ sum_over f p cs vs
least-below f p [] [] h = omega (arith, ints)
least-below f p (c ∷ cs) (v ∷ vs) h =
    let here : least_part c.bounds (f p c) ≤ℤ cond v (f p c) (pos 0) = below c.bounds v (f p c) h.0 in
    let rest : least_sum f (p + 1) cs ≤ℤ sum_over f (p + 1) cs vs = least-below f (p + 1) cs vs h.1 in
    omega (arith, ints)
least-below f p _ _ h = absurd h

-- ---------- cuts ----------

-- the point lies within each cut
abbrev pub IsWithin : List Cut → List Bool → Type 0
IsWithin cuts values = AllByRecursion (λ cut. form_sum cut.form values ≤ℤ cut.most) cuts

pub cuts-below : (ys : List ℕ) (cuts : List Cut) (cs : List TableColumn) (vs : List Bool) → length vs ≡ length cs → IsWithin cuts vs
    → sum_over (λ q c. cuts_number ys cuts q) 0 cs vs ≤ℤ cuts_right ys cuts
cuts-below (y ∷ ys) (cut ∷ cuts) cs vs l h =
    let split : sum_over (λ q c. cuts_number (y ∷ ys) (cut ∷ cuts) q) 0 cs vs
    ≡ pos y *ℤ form_sum cut.form vs +ℤ sum_over (λ q c. cuts_number ys cuts q) 0 cs vs =
    over-sum (λ q c. pos y *ℤ number_in cut.form q) (λ q c. cuts_number ys cuts q) 0 cs vs
    ∙ ap (λ (n : ℤ). n +ℤ sum_over (λ q c. cuts_number ys cuts q) 0 cs vs)
    (over-times (pos y) (λ q c. number_in cut.form q) 0 cs vs ∙ ap (λ (n : ℤ). pos y *ℤ n) (over-form cut.form cs vs l)) in
    let here : (pos y *ℤ form_sum cut.form vs) ≤ℤ (pos y *ℤ cut.most) = times-natural y (form_sum cut.form vs) cut.most h.0 in
    let rest : sum_over (λ q c. cuts_number ys cuts q) 0 cs vs ≤ℤ cuts_right ys cuts = cuts-below ys cuts cs vs l h.1 in
    rw split (omega (arith, ints))
cuts-below _ _ cs vs l h = rw (over-none 0 cs vs) (omega (arith, ints))

-- ---------- rows ----------

row_met : (P : ℕ × TableRow → Type 0) (n m k : ℕ) (rows : List TableRow) (r : TableRow) → AllByRecursion P (enumerate_from n rows)
    → slice_get rows k ≡ Some r → m ≡ n + k → P (m, r)
row_met P n m k [] r h at e = cc
row_met P n m zero (q ∷ rows) r h at e = let same : q ≡ r =
    cc in let place : n ≡ m = omega arith in subst (λ (x : ℕ). P (x, r)) place (subst (λ (x : TableRow). P (n, x)) same h.0)
row_met P n m (suc k) (q ∷ rows) r h at e = row_met P (n + 1) m k rows r h.1 at (omega arith)

by_kind : (kind : RowKind) (y sum right : ℤ) → has_sign kind y ≡ true → meets kind sum right ≡ true → (y *ℤ sum) ≤ℤ (y *ℤ right)
by_kind AtMost y sum right s m = times-up y sum right (at_most (pos 0) y s) (at_most sum right m)
by_kind AtLeast y sum right s m = times-down y sum right (at_most y (pos 0) s) (at_most right sum m)
by_kind Equal y sum right s m = let same : sum ≡ right = (Decides-int_eq sum right).0 m in rw same (omega (arith, ints))

by_row : (o : Option TableRow) (y sum : ℤ) → option_map_or (λ r. has_sign r.kind y) o false ≡ true
    → ((r : TableRow) → o ≡ Some r → meets r.kind sum r.right_side ≡ true)
    → (y *ℤ sum) ≤ℤ (y *ℤ option_map_or (λ r. r.right_side) o (pos 0))
by_row None y sum s m = absurd (cc)
by_row (Some r) y sum s m = by_kind r.kind y sum r.right_side s (m r refl)

pub rows-below : (p : Table) (rows : Form) (vs : List Bool) → IsPoint p vs → AllByRecursion (λ t. may_have p.rows t ≡ true) rows
    → sum_over (λ q c. rows_number rows c) 0 p.columns vs ≤ℤ rows_right p.rows rows
rows-below p [] vs h s = rw (over-none 0 p.columns vs) (omega (arith, ints))
rows-below p (t ∷ rows) vs h s =
    let split : sum_over (λ q c. rows_number (t ∷ rows) c) 0 p.columns vs ≡ t.1 *ℤ row_sum p vs t.0 +ℤ sum_over (λ q c. rows_number rows c) 0 p.columns vs =
    over-sum (λ q c. t.1 *ℤ coefficient_at t.0 c) (λ q c. rows_number rows c) 0 p.columns vs
    ∙ ap (λ (n : ℤ). n +ℤ sum_over (λ q c. rows_number rows c) 0 p.columns vs)
    (over-times t.1 (λ q c. coefficient_at t.0 c) 0 p.columns vs ∙ ap (λ (n : ℤ). t.1 *ℤ n)
    (over-columns (coefficient_at t.0) 0 p.columns vs)) in
    let met = λ (r : TableRow) (e : slice_get p.rows t.0 ≡ Some r). row_met (λ q. meets q.1.kind (row_sum p vs q.0) q.1.right_side ≡ true) 0
    t.0 t.0 p.rows r h.met e (omega arith) in
    let here : (t.1 *ℤ row_sum p vs t.0) ≤ℤ (t.1 *ℤ right_side_at p.rows t.0) = by_row (slice_get p.rows t.0) t.1 (row_sum p vs t.0) s.0 met in
    let rest : sum_over (λ q c. rows_number rows c) 0 p.columns vs ≤ℤ rows_right p.rows rows = rows-below p rows vs h s.1 in
    rw split (omega (arith, ints))

-- ---------- leaves ----------

-- the value of a leaf is at most the scaled objective
pub value-below : (p : Table) (cuts : List Cut) (scale : ℕ) (ys : List ℕ) (rows : Form) (vs : List Bool) → IsPoint p vs → IsWithin cuts vs
    → AllByRecursion (λ t. may_have p.rows t ≡ true) rows
    → leaf_value p cuts scale ys rows ≤ℤ (pos scale *ℤ objective p vs)
value-below p cuts scale ys rows vs h w s =
    let l : length vs ≡ length p.columns = allowed-length p.columns vs h.allowed in
    let costs : sum_over (λ q c. pos scale *ℤ c.cost) 0 p.columns vs ≡ pos scale *ℤ objective p vs =
    over-times (pos scale) (λ q c. c.cost) 0 p.columns vs
    ∙ ap (λ (n : ℤ). pos scale *ℤ n) (over-columns (λ c. c.cost) 0 p.columns vs) in
    let split : sum_over (reduced scale ys cuts rows) 0 p.columns vs
    ≡ sum_over (λ q c. pos scale *ℤ c.cost) 0 p.columns vs +ℤ (sum_over (λ q c. cuts_number ys cuts q) 0 p.columns vs +ℤ sum_over
    (λ q c. rows_number rows c) 0 p.columns vs) =
    over-sum (λ q c. pos scale *ℤ c.cost) (λ q c. cuts_number ys cuts q +ℤ rows_number rows c) 0 p.columns vs
    ∙ ap (λ (n : ℤ). sum_over (λ q c. pos scale *ℤ c.cost) 0 p.columns vs +ℤ n)
    (over-sum (λ q c. cuts_number ys cuts q) (λ q c. rows_number rows c) 0 p.columns vs) in
    let bottom : least_sum (reduced scale ys cuts rows) 0 p.columns ≤ℤ sum_over (reduced scale ys cuts rows) 0 p.columns vs =
    least-below (reduced scale ys cuts rows) 0 p.columns vs h.allowed in
    let of_cuts : sum_over (λ q c. cuts_number ys cuts q) 0 p.columns vs ≤ℤ cuts_right ys cuts = cuts-below ys cuts p.columns vs l w in
    let of_rows : sum_over (λ q c. rows_number rows c) 0 p.columns vs ≤ℤ rows_right p.rows rows = rows-below p rows vs h s in
    omega (arith, ints)

leaf-bounds : (p : Table) (least : ℤ) (cuts : List Cut) (scale : ℕ) (ys : List ℕ) (rows : Form) (vs : List Bool)
    → LeafShows p least cuts scale ys rows → IsPoint p vs → IsWithin cuts vs → least ≤ℤ objective p vs
leaf-bounds p least cuts scale ys rows vs shows h w =
    let value : leaf_value p cuts scale ys rows ≤ℤ (pos scale *ℤ objective p vs) = value-below p cuts scale ys rows vs h w shows.signs in
    let above : (pos scale *ℤ (least -ℤ pos 1)) <ℤ (pos scale *ℤ objective p vs) = omega (arith, ints, shows.above) in
    let next : (least -ℤ pos 1) <ℤ objective p vs = times-cancel scale (least -ℤ pos 1) (objective p vs) above in
    omega (arith, ints)

-- ---------- trees ----------

within-more : (cuts : List Cut) (cut : Cut) (vs : List Bool) → IsWithin cuts vs → form_sum cut.form vs ≤ℤ cut.most → IsWithin (cuts ++ cut ∷ []) vs
within-more [] cut vs h k = (k, tt)
within-more (c ∷ cuts) cut vs h k = (h.0, within-more cuts cut vs h.1 k)

pub negated-sum : (form : Form) (vs : List Bool) → form_sum (side true form (pos 0)).form vs ≡ neg_ℤ (form_sum form vs)
negated-sum [] vs = refl
negated-sum (t ∷ form) vs = rw (negated (slice_index_or vs t.0 false) t.1, negated-sum form vs) (omega (arith, ints))

pub shown-within : (p : Table) (least : ℤ) (cuts : List Cut) (certificate : Certificate) (vs : List Bool)
    → ShowsWithin p least cuts certificate → IsPoint p vs → IsWithin cuts vs → least ≤ℤ objective p vs
shown-within p least cuts (Bound scale ys rows) vs shows h w = leaf-bounds p least cuts scale ys rows vs shows h w
shown-within p least cuts (Split form most low high) vs shows h w =
    by_lt_z most (form_sum form vs)
    (λ more. shown-within p least (cuts ++ side true form most ∷ []) high vs shows.1 h
    (within-more cuts (side true form most) vs w (rw (negated-sum form vs) (omega (arith, ints)))))
    (λ few. shown-within p least (cuts ++ side false form most ∷ []) low vs shows.0 h (within-more cuts (side false form most) vs w few))

pub shown-is-bound : ShownIsBound
shown-is-bound p least certificate shows values h = shown-within p least [] certificate values shows h tt
