-- A leaf whose columns are gone over one after the other.
use Rattle.std.proofs.Common.{◌≡◌, ℕ, zero, suc, ◌+◌, ◌<◌, ◌≤◌, Bool, true, false, cond, List, [], ◌∷◌, Some, length, drop}
use Rattle.std.proofs.Common.{get_or, slice_get, refl, sym, ap, ap₂, ◌∙◌, arith, ℤ, pos, ◌+ℤ◌}
use Rattle.std.specs.Prelude.{◌*ℤ◌, ◌==◌}
use Rattle.std.specs.Option.{option_map}
use Rattle.std.proofs.lemmas.Int.{ints}
use Rattle.std.proofs.lemmas.Bool.Decides.{nat_tests}
use Rattle.std.proofs.lemmas.List.{drop_all}
use Rattle.std.proofs.lemmas.Option.{get_or_from_slice_get, slice_get_within}
use Rattle.std.proofs.Math.IntN.{*ℤ_comm}
use lib.IntN.{*ℤ-zero, zero-*ℤ}
use Rattle.program_rows.specs.Program.{Table, TableColumn}
use Rattle.program_rows.specs.Parts.{AreEntries, IsProgram}
use Rattle.optimality.specs.Certificates.{Form, number_in, sum_of}
use Rattle.optimality.specs.Reduced.{least_part}
use Rattle.optimality.specs.Adding.{AreGivenMore, at_place, number_at}
use Rattle.optimality.specs.inside.Adding.{HaveRows}
use Rattle.optimality.specs.inside.ByEntries.{columns_given, entries_given}
use Rattle.optimality.proofs.ColumnSumFacts.{least_sum, rows_number}
use Rattle.optimality.proofs.PlaceFacts.{given-step, rest}
use Rattle.optimality.proofs.ProductFacts.{times-sum}
use Rattle.optimality.proofs.RowFacts.{entries-of, entry-is}

-- ---------- multipliers ----------

-- a term more is added at its place, and the terms that are left
pub multipliers-step : (rows : Form) (i : ℕ) (d : ℕ × ℤ) (before after : List ℤ) (q : ℕ) → i < length rows
    → number_at after q ≡ number_at before q +ℤ at_place (get_or rows i d).0 (get_or rows i d).1 q
    → number_at before q +ℤ number_in (drop i rows) q ≡ number_in rows q → number_at after q +ℤ number_in (drop (i + 1) rows) q ≡ number_in rows q
multipliers-step rows i d before after q l more h =
    let split : number_in (drop i rows) q ≡ at_place (get_or rows i d).0 (get_or rows i d).1 q +ℤ number_in (drop (i + 1) rows) q =
    ap (λ (f : Form). number_in f q) (rest rows i d l) in
    omega (arith, ints)

-- ---------- entries ----------

entries-step : (ys : List ℤ) (entries : Form) (i : ℕ) (d : ℕ × ℤ) (sum next y all : ℤ) → i < length entries
    → y ≡ number_at ys (get_or entries i d).0 → next ≡ sum +ℤ y *ℤ (get_or entries i d).1
    → sum +ℤ entries_given ys (drop i entries) ≡ all → next +ℤ entries_given ys (drop (i + 1) entries) ≡ all
entries-step ys entries i d sum next y all l at s h =
    let e = get_or entries i d in
    let first : y *ℤ e.1 ≡ number_at ys e.0 *ℤ e.1 = ap (λ (k : ℤ). k *ℤ e.1) at in
    let before : sum +ℤ (number_at ys e.0 *ℤ e.1 +ℤ entries_given ys (drop (i + 1) entries)) ≡ all =
    ap (λ (es : Form). sum +ℤ entries_given ys es) (sym (rest entries i d l)) ∙ h in
    omega (arith, ints)

pub entry-added : (ys : List ℤ) (entries : Form) (i : ℕ) (e : ℕ × ℤ) (sum next y all : ℤ) → slice_get entries i ≡ Some e
    → y ≡ number_at ys e.0 → next ≡ sum +ℤ y *ℤ e.1
    → sum +ℤ entries_given ys (drop i entries) ≡ all → next +ℤ entries_given ys (drop (i + 1) entries) ≡ all
entry-added ys entries i e sum next y all there at s h =
    let is : get_or entries i e ≡ e = get_or_from_slice_get entries i e e there in
    entries-step ys entries i e sum next y all (slice_get_within entries i e there) (at ∙ ap (λ (t : ℕ × ℤ). number_at ys t.0) (sym is))
    (s ∙ ap (λ (t : ℕ × ℤ). sum +ℤ y *ℤ t.1) (sym is)) h

-- ---------- columns ----------

least_there : (f : ℕ → TableColumn → ℤ) (p i : ℕ) (cs : List TableColumn) (n : ℤ)
    → option_map (λ c. least_part c.bounds (f p c)) (slice_get cs i) ≡ Some n
    → least_sum f p (drop i cs) ≡ n +ℤ least_sum f (p + 1) (drop (suc i) cs)
least_there f p i [] n h = absurd cc
least_there f p zero (c ∷ cs) n h = let here : least_part c.bounds (f p c) ≡ n = cc in ap (λ (m : ℤ). m +ℤ least_sum f (p + 1) cs) here
least_there f p (suc i) (c ∷ cs) n h = least_there f p i cs n h

pub least-step : (f : ℕ → TableColumn → ℤ) (i : ℕ) (cs : List TableColumn) (sum next n all : ℤ)
    → option_map (λ c. least_part c.bounds (f i c)) (slice_get cs i) ≡ Some n → next ≡ sum +ℤ n
    → sum +ℤ least_sum f i (drop i cs) ≡ all → next +ℤ least_sum f (i + 1) (drop (i + 1) cs) ≡ all
least-step f i cs sum next n all e s h =
    let place : i + 1 ≡ suc i = omega arith in
    let after : drop (i + 1) cs ≡ drop (suc i) cs = ap (λ (k : ℕ). drop k cs) place in
    let there : least_sum f i (drop i cs) ≡ n +ℤ least_sum f (i + 1) (drop (suc i) cs) = least_there f i i cs n e in
    let moved : next +ℤ least_sum f (i + 1) (drop (suc i) cs) ≡ all = omega (arith, ints) in
    rw after moved

pub least-end : (f : ℕ → TableColumn → ℤ) (i : ℕ) (cs : List TableColumn) (sum all : ℤ) → length cs ≤ i → sum +ℤ least_sum f i (drop i cs) ≡ all → sum ≡ all
least-end f i cs sum all l h =
    let e : sum +ℤ pos 0 ≡ all = ap (λ (ds : List TableColumn). sum +ℤ least_sum f i ds) (sym (drop_all i cs l)) ∙ h in
    omega (arith, ints)

-- ---------- what columns are given ----------

columns_there : (ys : List ℤ) (p i : ℕ) (cs : List TableColumn) (es : Form) (q : ℕ) → option_map (λ c. c.entries) (slice_get cs i) ≡ Some es
    → columns_given ys p (drop i cs) q ≡ at_place p (entries_given ys es) q +ℤ columns_given ys (suc p) (drop (suc i) cs) q
columns_there ys p i [] es q h = absurd cc
columns_there ys p zero (c ∷ cs) es q h =
    let same : c.entries ≡ es = cc in ap (λ (e : Form). at_place p (entries_given ys e) q +ℤ columns_given ys (suc p) cs q) same
columns_there ys p (suc i) (c ∷ cs) es q h = columns_there ys p i cs es q h

pub columns-step : (ys : List ℤ) (i : ℕ) (cs : List TableColumn) (es : Form) (n : ℤ) (start before after : List ℤ)
    → option_map (λ c. c.entries) (slice_get cs i) ≡ Some es → n ≡ entries_given ys es → AreGivenMore (at_place i n) before after
    → ((q : ℕ) → number_at before q +ℤ columns_given ys i (drop i cs) q ≡ number_at start q +ℤ columns_given ys 0 cs q) → (q : ℕ)
    → number_at after q +ℤ columns_given ys (i + 1) (drop (i + 1) cs) q ≡ number_at start q +ℤ columns_given ys 0 cs q
columns-step ys i cs es n start before after there is more h =
    let place : suc i ≡ i + 1 = omega arith in
    given-step (columns_given ys i (drop i cs)) (at_place i n) (columns_given ys (i + 1) (drop (i + 1) cs)) start before after (columns_given ys 0 cs)
    (λ q. columns_there ys i i cs es q there
    ∙ ap (λ (k : ℕ). at_place i (entries_given ys es) q +ℤ columns_given ys k (drop k cs) q) place
    ∙ ap (λ (m : ℤ). at_place i m q +ℤ columns_given ys (i + 1) (drop (i + 1) cs) q) (sym is)) more h

pub columns-end : (ys : List ℤ) (i : ℕ) (cs : List TableColumn) (start after : List ℤ) → length cs ≤ i
    → ((q : ℕ) → number_at after q +ℤ columns_given ys i (drop i cs) q ≡ number_at start q +ℤ columns_given ys 0 cs q)
    → AreGivenMore (columns_given ys 0 cs) start after
columns-end ys i cs start after l h q =
    let e : number_at after q +ℤ pos 0 ≡ number_at start q +ℤ columns_given ys 0 cs q =
    ap (λ (ds : List TableColumn). number_at after q +ℤ columns_given ys i ds q) (sym (drop_all i cs l)) ∙ h q in
    omega (arith, ints)

columns_passed : (ys : List ℤ) (p : ℕ) (cs : List TableColumn) (q : ℕ) → q < p → columns_given ys p cs q ≡ pos 0
columns_passed ys p [] q h = refl
columns_passed ys p (c ∷ cs) q h =
    let other : (p == q) ≡ false = grind (arith, nat_tests) in
    rw (other, columns_passed ys (suc p) cs q (omega arith)) refl

columns_at : (ys : List ℤ) (p j : ℕ) (cs : List TableColumn) (q : ℕ) (c : TableColumn) → q ≡ p + j → slice_get cs j ≡ Some c
    → columns_given ys p cs q ≡ entries_given ys c.entries
columns_at ys p j [] q c e at = absurd cc
columns_at ys p zero (d ∷ cs) q c e at =
    let same : d ≡ c = cc in
    let here : (p == q) ≡ true = grind (arith, nat_tests) in
    let first : at_place p (entries_given ys d.entries) q ≡ entries_given ys d.entries = ap (λ (b : Bool). cond b (entries_given ys d.entries) (pos 0)) here in
    let later = columns_passed ys (suc p) cs q (omega arith) in
    let all : columns_given ys p (d ∷ cs) q ≡ entries_given ys d.entries = omega (arith, ints) in
    all ∙ ap (λ (x : TableColumn). entries_given ys x.entries) same
columns_at ys p (suc j) (d ∷ cs) q c e at =
    let other : (p == q) ≡ false = grind (arith, nat_tests) in
    let first : at_place p (entries_given ys d.entries) q ≡ pos 0 = ap (λ (b : Bool). cond b (entries_given ys d.entries) (pos 0)) other in
    let later = columns_at ys (suc p) j cs q c (omega arith) at in
    omega (arith, ints)

-- ---------- what they come to ----------

-- entries of a row that a term names, or of none
one-row : (t : ℕ × ℤ) (es : Form) → sum_of (λ e. cond (t.0 == e.0) t.1 (pos 0) *ℤ e.1) es ≡ t.1 *ℤ number_in es t.0
one-row t [] = sym (*ℤ-zero t.1)
one-row t (e ∷ es) =
    ap₂ (λ (a b : ℤ). a +ℤ b) (by (t.0 == e.0) (e.0 == t.0) turned) (one-row t es)
    ∙ sym (times-sum t.1 (cond (e.0 == t.0) e.1 (pos 0)) (number_in es t.0))
  where
    turned : (t.0 == e.0) ≡ (e.0 == t.0)
    turned = grind (arith, nat_tests)

    by : (a b : Bool) → a ≡ b → cond a t.1 (pos 0) *ℤ e.1 ≡ t.1 *ℤ cond b e.1 (pos 0)
    by true true s = refl
    by false false s = zero-*ℤ e.1 ∙ sym (*ℤ-zero t.1)
    by true false s = absurd cc
    by false true s = absurd cc

none-given : (es : Form) → sum_of (λ e. pos 0 *ℤ e.1) es ≡ pos 0
none-given [] = refl
none-given (e ∷ es) = rw (zero-*ℤ e.1, none-given es) refl

both : (f g : ℕ → ℤ) (es : Form) → sum_of (λ e. (f e.0 +ℤ g e.0) *ℤ e.1) es ≡ sum_of (λ e. f e.0 *ℤ e.1) es +ℤ sum_of (λ e. g e.0 *ℤ e.1) es
both f g [] = refl
both f g (e ∷ es) =
    let first : (f e.0 +ℤ g e.0) *ℤ e.1 ≡ f e.0 *ℤ e.1 +ℤ g e.0 *ℤ e.1 =
    *ℤ_comm (f e.0 +ℤ g e.0) e.1 ∙ times-sum e.1 (f e.0) (g e.0)
    ∙ ap₂ (λ (a b : ℤ). a +ℤ b) (*ℤ_comm e.1 (f e.0)) (*ℤ_comm e.1 (g e.0)) in
    omega (arith, ints, both f g es)

-- multipliers of entries, and entries of multipliers
turned-round : (rows es : Form) → sum_of (λ e. number_in rows e.0 *ℤ e.1) es ≡ sum_of (λ t. t.1 *ℤ number_in es t.0) rows
turned-round [] es = none-given es
turned-round (t ∷ rows) es =
    both (λ q. cond (t.0 == q) t.1 (pos 0)) (number_in rows) es
    ∙ ap₂ (λ (a b : ℤ). a +ℤ b) (one-row t es) (turned-round rows es)

coefficients : (m : ℕ) (c : TableColumn) (rows : Form) → AreEntries m c.entries → sum_of (λ t. t.1 *ℤ number_in c.entries t.0) rows ≡ rows_number rows c
coefficients m c [] h = refl
coefficients m c (t ∷ rows) h = ap₂ (λ (a b : ℤ). t.1 *ℤ a +ℤ b) (entry-is m t.0 c.entries h) (coefficients m c rows h)

given-same : (m : ℕ) (ys : List ℤ) (rows es : Form) → ((row : ℕ) → row < m → number_at ys row ≡ number_in rows row) → AreEntries m es
    → entries_given ys es ≡ sum_of (λ e. number_in rows e.0 *ℤ e.1) es
given-same m ys rows [] same h = refl
given-same m ys rows (e ∷ es) same h = ap₂ (λ (a b : ℤ). a *ℤ e.1 +ℤ b) (same e.0 h.0) (given-same m ys rows es same h.3)

pub columns-have : (p : Table) (rows : Form) (ys before after : List ℤ) → IsProgram p → ((row : ℕ) → number_at ys row ≡ number_in rows row)
    → AreGivenMore (columns_given ys 0 p.columns) before after → HaveRows p rows before after
columns-have p rows ys before after h same more place c at =
    let m = length p.rows in
    let entries = entries-of m p.columns place c h.entries at in
    more place
    ∙ ap (λ (n : ℤ). number_at before place +ℤ n)
    (columns_at ys 0 place p.columns place c (omega arith) at ∙ given-same m ys rows c.entries (λ row _. same row) entries ∙ turned-round
    rows c.entries ∙ coefficients m c rows entries)
