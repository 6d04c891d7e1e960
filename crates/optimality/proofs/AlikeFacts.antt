-- Forms that give each place the same can stand for one another.
use Rattle.std.proofs.Common.{◌≡◌, ℕ, zero, suc, ◌+◌, ◌<◌, ◌≤◌, Bool, true, false, cond, List, [], ◌∷◌, ◌++◌, Option, Some}
use Rattle.std.proofs.Common.{None, Result, Ok, Err, inl, inr, length, refl, subst, sym, ap, ap₂, ◌∙◌, arith, ℤ, pos, neg_ℤ}
use Rattle.std.proofs.Common.{◌+ℤ◌}
use Rattle.std.specs.Prelude.{◌*◌, ◌^◌, ◌*ℤ◌, ◌-ℤ◌, ◌==◌, if◌then◌else◌, int_lt, unsigned_abs}
use Rattle.std.specs.List.{zip}
use native.Mathlib.Nat.{mul-le-mul_left}
use Rattle.std.specs.Option.{ok_or}
use Rattle.std.proofs.lemmas.Int.{ints}
use Rattle.std.proofs.lemmas.Bool.Decides.{nat_tests}
use Rattle.std.proofs.Math.IntN.{*ℤ_comm}
use lib.IntN.{zero-*ℤ}
use Rattle.auction_terms.specs.Stages.{and_then}
use Rattle.program_rows.specs.Program.{Table}
use Rattle.program_rows.specs.Points.{coefficient_at}
use Rattle.auction_terms.specs.LineFields.{fields, is_skipped}
use Rattle.program_rows.specs.declared.certificate_fault.CertificateFaultKind.{CertificateFaultKind}
use Rattle.program_rows.specs.declared.certificate_fault.CertificateFaultKind.TheVariants.{Beyond, NotShown}
use Rattle.optimality.specs.Certificates.{Form, Cut, number_in, side, sum_of}
use Rattle.optimality.specs.Reduced.{reduced, right_side_at}
use Rattle.optimality.specs.Shows.{leaf_value}
use Rattle.optimality.specs.LineMeaning.{ParsedLine, BoundLine, SplitLine, parsed_certificate_line}
use Rattle.optimality.specs.Branches.{Branch, At, cuts_above, closed}
use Rattle.optimality.specs.Sizes.{IsLargeFrom, IsLargeLine, IsLargeParsed, cut_size, leaf_size, size_of}
use Rattle.optimality.specs.inside.Sizes.{form_size}
use Rattle.optimality.specs.Verdict.{open_after as after_line, taken, fault_from}
use Rattle.optimality.specs.declared.checker.OpenSplit.{OpenSplit}
use Rattle.optimality.specs.inside.Adding.{AreAlike, AreNoLarger}
use Rattle.optimality.specs.inside.Branches.{branch_of, GoOnAlike}
use Rattle.optimality.proofs.ColumnSumFacts.{cuts_number, cuts_right, least_sum, rows_number, rows_right}
use Rattle.optimality.proofs.LeafFacts.{least-same}
use Rattle.optimality.proofs.PlaceFacts.{negated-in}
use Rattle.optimality.proofs.PlaceSizeFacts.{form-no-larger, top}
use Rattle.optimality.proofs.ProductFacts.{times-sum}
use Rattle.optimality.proofs.SizeFacts.{negated-size}

-- ---------- sums over places ----------

-- over the places below m
abbrev weighed : ℕ → (ℕ → ℤ) → (ℕ → ℤ) → ℤ
weighed zero s h = pos 0
weighed (suc m) s h = weighed m s h +ℤ s m *ℤ h m

weighed-same : (m : ℕ) (s other h : ℕ → ℤ) → ((q : ℕ) → s q ≡ other q) → weighed m s h ≡ weighed m other h
weighed-same zero s other h same = refl
weighed-same (suc m) s other h same = ap₂ (λ (a b : ℤ). a +ℤ b *ℤ h m) (weighed-same m s other h same) (same m)

weighed-none : (m : ℕ) (h : ℕ → ℤ) → weighed m (λ _. pos 0) h ≡ pos 0
weighed-none zero h = refl
weighed-none (suc m) h = rw (weighed-none m h, zero-*ℤ (h m)) refl

-- a number more at a place
abbrev more_at : ℕ → ℤ → (ℕ → ℤ) → ℕ → ℤ
more_at place n s q = cond (place == q) n (pos 0) +ℤ s q

elsewhere : (place q : ℕ) (n : ℤ) (s : ℕ → ℤ) → (place == q) ≡ false → more_at place n s q ≡ s q
elsewhere place q n s e = rw e (omega (arith, ints))

here : (place q : ℕ) (n : ℤ) (s : ℕ → ℤ) → (place == q) ≡ true → more_at place n s q ≡ n +ℤ s q
here place q n s e = rw e refl

weighed-past : (m place : ℕ) (n : ℤ) (s h : ℕ → ℤ) → m ≤ place → weighed m (more_at place n s) h ≡ weighed m s h
weighed-past zero place n s h l = refl
weighed-past (suc m) place n s h l =
    let other : (place == m) ≡ false = grind (arith, nat_tests) in
    ap₂ (λ (a b : ℤ). a +ℤ b *ℤ h m) (weighed-past m place n s h (omega arith)) (elsewhere place m n s other)

sum-times : (a b k : ℤ) → (a +ℤ b) *ℤ k ≡ a *ℤ k +ℤ b *ℤ k
sum-times a b k = *ℤ_comm (a +ℤ b) k ∙ times-sum k a b ∙ ap₂ (λ (x y : ℤ). x +ℤ y) (*ℤ_comm k a) (*ℤ_comm k b)

weighed-more : (m place : ℕ) (n : ℤ) (s h : ℕ → ℤ) → place < m → weighed m (more_at place n s) h ≡ n *ℤ h place +ℤ weighed m s h
weighed-more zero place n s h l = absurd (omega arith)
weighed-more (suc m) place n s h l = by (weighed-more m place n s h) (place == m) refl
  where
    arrange : (a b w : ℤ) → w +ℤ (a +ℤ b) ≡ a +ℤ (w +ℤ b)
    arrange a b w = omega (arith, ints)

    by : (place < m → weighed m (more_at place n s) h ≡ n *ℤ h place +ℤ weighed m s h) → (b : Bool) → (place == m) ≡ b
        → weighed m (more_at place n s) h +ℤ more_at place n s m *ℤ h m ≡ n *ℤ h place +ℤ (weighed m s h +ℤ s m *ℤ h m)
    by later true e =
        let same : place ≡ m = grind (arith, nat_tests) in
        ap₂ (λ (a b : ℤ). a +ℤ b *ℤ h m) (weighed-past m place n s h (omega arith)) (here place m n s e)
        ∙ ap (λ (a : ℤ). weighed m s h +ℤ a) (sum-times n (s m) (h m))
        ∙ arrange (n *ℤ h m) (s m *ℤ h m) (weighed m s h)
        ∙ ap (λ (k : ℕ). n *ℤ h k +ℤ (weighed m s h +ℤ s m *ℤ h m)) (sym same)
    by later false e =
        let below : place < m = grind (arith, nat_tests) in
        ap₂ (λ (a b : ℤ). a +ℤ b *ℤ h m) (later below) (elsewhere place m n s e)
        ∙ omega (arith, ints)

weighed-form : (m : ℕ) (form : Form) (h : ℕ → ℤ) → top form ≤ m → sum_of (λ t. t.1 *ℤ h t.0) form ≡ weighed m (number_in form) h
weighed-form m [] h l = sym (weighed-none m h)
weighed-form m (t ∷ form) h l =
    let within : t.0 < m = omega arith in
    ap (λ (a : ℤ). t.1 *ℤ h t.0 +ℤ a) (weighed-form m form h (omega arith)) ∙ sym (weighed-more m t.0 t.1 (number_in form) h within)

sum-alike : (form other : Form) (h : ℕ → ℤ) → AreAlike form other → sum_of (λ t. t.1 *ℤ h t.0) form ≡ sum_of (λ t. t.1 *ℤ h t.0) other
sum-alike form other h alike =
    let m = top form + top other in
    weighed-form m form h (omega arith) ∙ weighed-same m (number_in form) (number_in other) h alike ∙ sym (weighed-form m other h (omega arith))

-- ---------- leaves ----------

-- rows that are alike
pub rows-alike : (p : Table) (cuts : List Cut) (scale : ℕ) (ys : List ℕ) (rows other : Form) → AreAlike rows other
    → leaf_value p cuts scale ys rows ≡ leaf_value p cuts scale ys other
rows-alike p cuts scale ys rows other alike =
    let columns : least_sum (reduced scale ys cuts rows) 0 p.columns ≡ least_sum (reduced scale ys cuts other) 0 p.columns =
    least-same (reduced scale ys cuts rows) (reduced scale ys cuts other) 0 p.columns
    (λ i j c place at. ap (λ (n : ℤ). pos scale *ℤ c.cost +ℤ (cuts_number ys cuts i +ℤ n))
    (sum-alike rows other (λ row. coefficient_at row c) alike)) in
    ap₂ (λ (a b : ℤ). a -ℤ (cuts_right ys cuts +ℤ b)) columns (sum-alike rows other (λ row. right_side_at p.rows row) alike)

-- cuts that are alike
abbrev CutsAlike : List Cut → List Cut → Type 0
CutsAlike [] [] = Unit {0}
CutsAlike (cut ∷ cuts) (other ∷ others) = (cut.most ≡ other.most) × AreAlike cut.form other.form × CutsAlike cuts others
CutsAlike _ _ = ⊥

cuts-number-alike : (ys : List ℕ) (cuts others : List Cut) (q : ℕ) → CutsAlike cuts others → cuts_number ys cuts q ≡ cuts_number ys others q
cuts-number-alike (y ∷ ys) [] (other ∷ others) q alike = absurd alike
cuts-number-alike (y ∷ ys) (cut ∷ cuts) [] q alike = absurd alike
cuts-number-alike (y ∷ ys) (cut ∷ cuts) (other ∷ others) q alike = ap₂ (λ (a b : ℤ). pos y *ℤ a +ℤ b) (alike.1 q) (cuts-number-alike ys cuts others q alike.2)
cuts-number-alike _ _ _ q alike = refl

cuts-right-alike : (ys : List ℕ) (cuts others : List Cut) → CutsAlike cuts others → cuts_right ys cuts ≡ cuts_right ys others
cuts-right-alike (y ∷ ys) [] (other ∷ others) alike = absurd alike
cuts-right-alike (y ∷ ys) (cut ∷ cuts) [] alike = absurd alike
cuts-right-alike (y ∷ ys) (cut ∷ cuts) (other ∷ others) alike = ap₂ (λ (a b : ℤ). pos y *ℤ a +ℤ b) alike.0 (cuts-right-alike ys cuts others alike.2)
cuts-right-alike _ _ _ alike = refl

value-alike : (p : Table) (cuts others : List Cut) (scale : ℕ) (ys : List ℕ) (rows : Form) → CutsAlike cuts others
    → leaf_value p cuts scale ys rows ≡ leaf_value p others scale ys rows
value-alike p cuts others scale ys rows alike =
    let columns : least_sum (reduced scale ys cuts rows) 0 p.columns ≡ least_sum (reduced scale ys others rows) 0 p.columns =
    least-same (reduced scale ys cuts rows) (reduced scale ys others rows) 0 p.columns
    (λ i j c place at. ap (λ (n : ℤ). pos scale *ℤ c.cost +ℤ (n +ℤ rows_number rows c)) (cuts-number-alike ys cuts others i alike)) in
    ap₂ (λ (a b : ℤ). a -ℤ (b +ℤ rows_right p.rows rows)) columns (cuts-right-alike ys cuts others alike)

-- ---------- open splits ----------

abbrev pub BranchesAlike : List Branch → List Branch → Type 0
BranchesAlike [] [] = Unit {0}
BranchesAlike (At is_second form most ∷ above) (At other_second other other_most ∷ others) =
    (is_second ≡ other_second) × (most ≡ other_most) × AreAlike form other × AreNoLarger other form × BranchesAlike above others
BranchesAlike _ _ = ⊥

pub branches-themselves : (branches : List Branch) → BranchesAlike branches branches
branches-themselves [] = tt
branches-themselves (At is_second form most ∷ above) = (refl, refl, λ _. refl, λ _. omega arith, branches-themselves above)

lengths-alike : (branches others : List Branch) → BranchesAlike branches others → length branches ≡ length others
lengths-alike [] [] alike = refl
lengths-alike (At is_second form most ∷ above) (At other_second other other_most ∷ others) alike = ap suc (lengths-alike above others alike.4)
lengths-alike _ _ alike = absurd alike

sides-alike : (is_second : Bool) (form other : Form) (most : ℤ) → AreAlike form other
    → CutsAlike (side is_second form most ∷ []) (side is_second other most ∷ [])
sides-alike false form other most alike = (refl, alike, tt)
sides-alike true form other most alike = (refl, λ q. negated-in form most q ∙ ap neg_ℤ (alike q) ∙ sym (negated-in other most q), tt)

cuts-joined : (cuts others more_cuts more_others : List Cut) → CutsAlike cuts others → CutsAlike more_cuts more_others
    → CutsAlike (cuts ++ more_cuts) (others ++ more_others)
cuts-joined [] [] more_cuts more_others alike more = more
cuts-joined (cut ∷ cuts) (other ∷ others) more_cuts more_others alike more = (alike.0, alike.1, cuts-joined cuts others more_cuts more_others alike.2 more)
cuts-joined _ _ more_cuts more_others alike more = absurd alike

cuts-above-alike : (branches others : List Branch) → BranchesAlike branches others → CutsAlike (cuts_above branches) (cuts_above others)
cuts-above-alike [] [] alike = tt
cuts-above-alike (At is_second form most ∷ above) (At other_second other other_most ∷ others) alike =
    let last : CutsAlike (side is_second form most ∷ []) (side other_second other other_most ∷ []) =
    subst (λ (s : Bool). CutsAlike (side is_second form most ∷ []) (side s other other_most ∷ [])) alike.0
    (subst (λ (k : ℤ). CutsAlike (side is_second form most ∷ []) (side is_second other k ∷ [])) alike.1 (sides-alike is_second form other most alike.2)) in
    cuts-joined (cuts_above above) (cuts_above others) (side is_second form most ∷ []) (side other_second other other_most ∷ [])
    (cuts-above-alike above others alike.4) last
cuts-above-alike _ _ alike = absurd alike

-- ---------- after a line ----------

abbrev Opened : Type 0
Opened = Result (Option (List Branch)) CertificateFaultKind

abbrev OpenAlike : Opened → Opened → Type 0
OpenAlike (Ok None) (Ok None) = Unit {0}
OpenAlike (Ok (Some branches)) (Ok (Some others)) = BranchesAlike branches others
OpenAlike (Err kind) (Err other) = kind ≡ other
OpenAlike _ _ = ⊥

closed-alike : (branches others : List Branch) → BranchesAlike branches others → OpenAlike (Ok (closed branches)) (Ok (closed others))
closed-alike [] [] alike = tt
closed-alike (At true form most ∷ above) (At true other other_most ∷ others) alike = closed-alike above others alike.4
closed-alike (At false form most ∷ above) (At false other other_most ∷ others) alike = (refl, alike.1, alike.2, alike.3, alike.4)
closed-alike (At true form most ∷ above) (At false other other_most ∷ others) alike = let apart = alike.0 in absurd cc
closed-alike (At false form most ∷ above) (At true other other_most ∷ others) alike = let apart = alike.0 in absurd cc
closed-alike _ _ alike = absurd alike

taken-alike : (p : Table) (least : ℤ) (branches others : List Branch) (parsed : ParsedLine) → BranchesAlike branches others
    → OpenAlike (taken p least branches parsed) (taken p least others parsed)
taken-alike p least branches others (SplitLine form most) alike = (refl, refl, λ _. refl, λ _. omega arith, alike)
taken-alike p least branches others (BoundLine scale ys rows) alike =
    let same : leaf_value p (cuts_above branches) scale ys rows ≡ leaf_value p (cuts_above others) scale ys rows =
    value-alike p (cuts_above branches) (cuts_above others) scale ys rows (cuts-above-alike branches others alike) in
    subst (λ (n : ℤ). OpenAlike (taken p least branches (BoundLine scale ys rows))
    (if int_lt (pos scale *ℤ (least -ℤ pos 1)) n then Ok (closed others) else Err NotShown)) same
    (by (int_lt (pos scale *ℤ (least -ℤ pos 1)) (leaf_value p (cuts_above branches) scale ys rows)))
  where
    by : (b : Bool) → OpenAlike (if b then Ok (closed branches) else Err NotShown) (if b then Ok (closed others) else Err NotShown)
    by true = closed-alike branches others alike
    by false = refl

parsed-alike : (p : Table) (least : ℤ) (branches others : List Branch) (parsed : Result ParsedLine CertificateFaultKind)
    → BranchesAlike branches others → OpenAlike (and_then parsed (taken p least branches)) (and_then parsed (taken p least others))
parsed-alike p least branches others (Ok parsed) alike = taken-alike p least branches others parsed alike
parsed-alike p least branches others (Err kind) alike = refl

abbrev open_after : Table → ℤ → List ℕ → Option (List Branch) → Opened
open_after p least line branches =
    and_then (ok_or branches Beyond) (λ above. and_then (parsed_certificate_line p (length above) (fields line)) (taken p least above))

after-alike : (p : Table) (least : ℤ) (line : List ℕ) (branches others : Option (List Branch)) → OpenAlike (Ok branches) (Ok others)
    → OpenAlike (open_after p least line branches) (open_after p least line others)
after-alike p least line None None alike = refl
after-alike p least line (Some branches) (Some others) alike =
    subst (λ (depth : ℕ). OpenAlike (and_then (parsed_certificate_line p (length branches) (fields line)) (taken p least branches))
    (and_then (parsed_certificate_line p depth (fields line)) (taken p least others))) (lengths-alike branches others alike)
    (parsed-alike p least branches others (parsed_certificate_line p (length branches) (fields line)) alike)
after-alike p least line _ _ alike = absurd alike

-- the first fault is the same
pub fault-alike : (p : Table) (least : ℤ) (place : ℕ) (lines : List (List ℕ)) (parsed other : Opened) → OpenAlike parsed other
    → fault_from p least parsed place lines ≡ fault_from p least other place lines
fault-alike p least place lines (Err kind) (Err other) alike = ap (λ (k : CertificateFaultKind). Some (place, k)) alike
fault-alike p least place lines (Ok o) (Err kind) alike = absurd (by o alike)
  where
    by : (o : Option (List Branch)) → OpenAlike (Ok o) (Err kind) → ⊥
    by None h = h
    by (Some branches) h = h
fault-alike p least place [] (Ok None) (Ok None) alike = refl
fault-alike p least place [] (Ok (Some branches)) (Ok (Some others)) alike = refl
fault-alike p least place (line ∷ lines) (Ok branches) (Ok others) alike =
    by (fault-alike p least (suc place) lines (Ok branches) (Ok others) alike)
    (fault-alike p least (suc place) lines (open_after p least line branches) (open_after p least line others)
    (after-alike p least line branches others alike)) (is_skipped line)
  where
    by : fault_from p least (Ok branches) (suc place) lines ≡ fault_from p least (Ok others) (suc place) lines
        → fault_from p least (open_after p least line branches) (suc place) lines
        ≡ fault_from p least (open_after p least line others) (suc place) lines
        → (b : Bool) → fault_from p least (if b then Ok branches else open_after p least line branches) (suc place) lines
        ≡ fault_from p least (if b then Ok others else open_after p least line others) (suc place) lines
    by skipped parsed true = skipped
    by skipped parsed false = parsed
fault-alike p least place _ _ _ alike = absurd alike

-- ---------- sizes ----------

-- cuts that are no larger
abbrev CutsNoLarger : List Cut → List Cut → Type 0
CutsNoLarger [] [] = Unit {0}
CutsNoLarger (other ∷ others) (cut ∷ cuts) = (cut_size other ≤ cut_size cut) × CutsNoLarger others cuts
CutsNoLarger _ _ = ⊥

cuts-size : (ys : List ℕ) (others cuts : List Cut) → CutsNoLarger others cuts
    → size_of (λ e. e.0 * cut_size e.1) (zip ys others) ≤ size_of (λ e. e.0 * cut_size e.1) (zip ys cuts)
cuts-size (y ∷ ys) [] (cut ∷ cuts) h = absurd h
cuts-size (y ∷ ys) (other ∷ others) [] h = absurd h
cuts-size (y ∷ ys) (other ∷ others) (cut ∷ cuts) h =
    let first : y * cut_size other ≤ y * cut_size cut = mul-le-mul_left y h.0 in
    omega (arith, cuts-size ys others cuts h.1)
cuts-size _ _ _ h = omega arith

larger-joined : (others cuts more_others more_cuts : List Cut) → CutsNoLarger others cuts → CutsNoLarger more_others more_cuts
    → CutsNoLarger (others ++ more_others) (cuts ++ more_cuts)
larger-joined [] [] more_others more_cuts h more = more
larger-joined (other ∷ others) (cut ∷ cuts) more_others more_cuts h more = (h.0, larger-joined others cuts more_others more_cuts h.1 more)
larger-joined _ _ more_others more_cuts h more = absurd h

side-size : (is_second : Bool) (form : Form) (most : ℤ) → cut_size (side is_second form most) ≡ form_size form + unsigned_abs (side is_second [] most).most
side-size true form most = ap (λ (n : ℕ). n + unsigned_abs (neg_ℤ (most +ℤ pos 1))) (negated-size form most)
side-size false form most = refl

cuts-above-size : (branches others : List Branch) → BranchesAlike branches others → CutsNoLarger (cuts_above others) (cuts_above branches)
cuts-above-size [] [] alike = tt
cuts-above-size (At is_second form most ∷ above) (At other_second other other_most ∷ others) alike =
    let left = side-size is_second form most in
    let right = side-size other_second other other_most in
    let same : unsigned_abs (side is_second [] most).most ≡ unsigned_abs (side other_second [] other_most).most =
    ap₂ (λ (s : Bool) (k : ℤ). unsigned_abs (side s [] k).most) alike.0 alike.1 in
    let less = form-no-larger other form alike.3 in
    let last : cut_size (side other_second other other_most) ≤ cut_size (side is_second form most) = omega arith in
    larger-joined (cuts_above others) (cuts_above above) (side other_second other other_most ∷ []) (side is_second form most ∷ [])
    (cuts-above-size above others alike.4) (last, tt)
cuts-above-size _ _ alike = absurd alike

parsed-large : (p : Table) (least : ℤ) (branches others : List Branch) (parsed : Result ParsedLine CertificateFaultKind)
    → BranchesAlike branches others → IsLargeParsed p least others parsed → IsLargeParsed p least branches parsed
parsed-large p least branches others (Ok (BoundLine scale ys rows)) alike h =
    let large : 2 ^ 126 ≤ leaf_size p least (cuts_above others) scale ys rows = h in
    omega (arith, cuts-size ys (cuts_above others) (cuts_above branches) (cuts-above-size branches others alike))
parsed-large p least branches others _ alike h = absurd h

line-large : (p : Table) (least : ℤ) (line : List ℕ) (branches others : Option (List Branch)) → OpenAlike (Ok branches) (Ok others)
    → IsLargeLine p least others line → IsLargeLine p least branches line
line-large p least line None None alike h = absurd h
line-large p least line (Some branches) (Some others) alike h =
    let moved : IsLargeParsed p least others (parsed_certificate_line p (length branches) (fields line)) = subst
    (λ (depth : ℕ). IsLargeParsed p least others (parsed_certificate_line p depth (fields line)))
    (sym (lengths-alike branches others alike)) h in
    parsed-large p least branches others (parsed_certificate_line p (length branches) (fields line)) alike moved
line-large p least line _ _ alike h = absurd alike

passed-alike : (p : Table) (least : ℤ) (line : List ℕ) (branches others : Option (List Branch)) → OpenAlike (Ok branches) (Ok others)
    → OpenAlike (after_line p least branches line) (after_line p least others line)
passed-alike p least line branches others alike = by (is_skipped line)
  where
    by : (b : Bool) → OpenAlike (if b then Ok branches else open_after p least line branches) (if b then Ok others else open_after p least line others)
    by true = alike
    by false = after-alike p least line branches others alike

-- a line that is large by the code's splits is so by those of the definition
pub large-alike : (p : Table) (least : ℤ) (place : ℕ) (lines : List (List ℕ)) (parsed other : Opened) (number : ℕ) → OpenAlike parsed other
    → IsLargeFrom p least other place lines number → IsLargeFrom p least parsed place lines number
large-alike p least place lines (Err kind) (Err other) number alike h = absurd h
large-alike p least place lines (Err kind) (Ok o) number alike h = absurd alike
large-alike p least place lines (Ok o) (Err kind) number alike h = absurd h
large-alike p least place [] (Ok branches) (Ok others) number alike h = absurd h
large-alike p least place (line ∷ lines) (Ok branches) (Ok others) number alike (inl h) = inl (h.0, line-large p least line branches others alike h.1)
large-alike p least place (line ∷ lines) (Ok branches) (Ok others) number alike (inr h) = inr
    (large-alike p least (suc place) lines (after_line p least branches line) (after_line p least others line) number
    (passed-alike p least line branches others alike) h)

-- a split that is opened with another form than the line tells, which gives each column the same and is no larger
pub split-opened : (p : Table) (least : ℤ) (branches after : List Branch) (parsed : Result ParsedLine CertificateFaultKind) (form : Form)
    (most : ℤ) (split : OpenSplit) → parsed ≡ Ok (SplitLine form most) → AreAlike split.form.items form → AreNoLarger split.form.items form
    → split.most ≡ most
    → split.is_high ≡ false → after ≡ branch_of split ∷ branches → GoOnAlike p least (and_then parsed (taken p least branches)) (Ok (Some after))
split-opened p least branches after parsed form most split t alike less m low a place lines = (
  ap (λ (r : Result ParsedLine CertificateFaultKind). fault_from p least (and_then r (taken p least branches)) place lines) t
      ∙ fault-alike p least place lines (Ok (Some (At false form most ∷ branches))) (Ok (Some (branch_of split ∷ branches))) opened
      ∙ ap (λ (bs : List Branch). fault_from p least (Ok (Some bs)) place lines) (sym a),
  λ number h.
      subst (λ (r : Result ParsedLine CertificateFaultKind). IsLargeFrom p least (and_then r (taken p least branches)) place lines number) (sym t)
      (large-alike p least place lines (Ok (Some (At false form most ∷ branches))) (Ok (Some (branch_of split ∷ branches))) number opened
      (subst (λ (bs : List Branch). IsLargeFrom p least (Ok (Some bs)) place lines number) a h)),
)
  where
    opened : BranchesAlike (At false form most ∷ branches) (branch_of split ∷ branches)
    opened = (sym low, sym m, λ q. sym (alike q), less, branches-themselves branches)
