-- One step of each loop over what a leaf adds up.
use Rattle.std.proofs.Common.{◌≡◌, ℕ, ◌+◌, ◌<◌, Bool, true, false, List, length, drop, get_or, refl, sym, ap, ap₂, ◌∙◌, arith, ℤ, pos, neg_ℤ, ◌+ℤ◌}
use Rattle.std.specs.Prelude.{◌*ℤ◌, if◌then◌else◌}
use borrow.Author.Differences.{product_is, neg_is, same_in}
use Rattle.std.proofs.lemmas.Int.{ints}
use Rattle.program_rows.specs.Program.{TableRow}
use Rattle.optimality.specs.declared.checker.OpenSplit.{OpenSplit}
use Rattle.optimality.specs.Certificates.{Form, side, number_in}
use Rattle.optimality.specs.Reduced.{right_side_at}
use Rattle.optimality.specs.Adding.{AreGivenMore, number_at, form_at}
use Rattle.optimality.specs.inside.Adding.{cuts_given, form_given, rows_given}
use Rattle.optimality.specs.Holding.{cut_of, cuts_of}
use Rattle.optimality.proofs.ColumnSumFacts.{cuts_right, rows_right}
use Rattle.optimality.proofs.PlaceFacts.{rest, given-step, negated-in}

pub right-step : (table : List TableRow) (rows : Form) (i : ℕ) (d : ℕ × ℤ) (sum next all : ℤ) → i < length rows
    → next ≡ sum +ℤ (get_or rows i d).1 *ℤ right_side_at table (get_or rows i d).0
    → sum +ℤ rows_right table (drop i rows) ≡ all → next +ℤ rows_right table (drop (i + 1) rows) ≡ all
right-step table rows i d sum next all l s h =
    let before : sum +ℤ ((get_or rows i d).1 *ℤ right_side_at table (get_or rows i d).0 +ℤ rows_right table (drop (i + 1) rows)) ≡ all =
    ap (λ (rs : Form). sum +ℤ rows_right table rs) (sym (rest rows i d l)) ∙ h in
    omega (arith, ints)

-- ---------- cuts ----------

turned : (k a : ℤ) → neg_ℤ k *ℤ a ≡ k *ℤ neg_ℤ a
turned k a =
    let left = product_is (neg_ℤ k) a in
    let right = product_is k (neg_ℤ a) in
    let factor = neg_is k in
    let other = neg_is a in
    same_in (neg_ℤ k *ℤ a) (k *ℤ neg_ℤ a) (rw (left.0, left.1, right.0, right.1, factor.0, factor.1, other.0, other.1) (omega arith))

-- a multiple of one side of a split
pub side-given : (high : Bool) (k : ℤ) (form : Form) (most : ℤ) (q : ℕ)
    → form_given (if high then neg_ℤ k else k) form q ≡ form_given k (side high form most).form q
side-given true k form most q = turned k (number_in form q) ∙ ap (λ (n : ℤ). k *ℤ n) (sym (negated-in form most q))
side-given false k form most q = refl

-- the cut at a place, and those after it
pub cuts-rest : (ys : List ℕ) (splits : List OpenSplit) (i : ℕ) (e : ℕ) (d : OpenSplit) (q : ℕ) → i < length ys → i < length splits
    → cuts_given (drop i ys) (cuts_of (drop i splits)) q ≡ form_given (pos (get_or ys i e)) (cut_of (get_or splits i d)).form q +ℤ
    cuts_given (drop (i + 1) ys) (cuts_of (drop (i + 1) splits)) q
cuts-rest ys splits i e d q l m = ap₂ (λ (ms : List ℕ) (ss : List OpenSplit). cuts_given ms (cuts_of ss) q) (rest ys i e l) (rest splits i d m)

pub cuts-step : (ys : List ℕ) (splits : List OpenSplit) (i : ℕ) (e : ℕ) (d : OpenSplit) (start before after : List ℤ) → i < length ys → i < length splits
    → AreGivenMore (form_given (pos (get_or ys i e)) (cut_of (get_or splits i d)).form) before after
    → ((q : ℕ) → number_at before q +ℤ cuts_given (drop i ys) (cuts_of (drop i splits)) q ≡ number_at start q +ℤ cuts_given ys (cuts_of splits) q)
    → (q : ℕ) → number_at after q +ℤ cuts_given (drop (i + 1) ys) (cuts_of (drop (i + 1) splits)) q ≡ number_at start q +ℤ cuts_given ys (cuts_of splits) q
cuts-step ys splits i e d start before after l m more h =
    given-step (cuts_given (drop i ys) (cuts_of (drop i splits))) (form_given (pos (get_or ys i e)) (cut_of (get_or splits i d)).form)
    (cuts_given (drop (i + 1) ys) (cuts_of (drop (i + 1) splits))) start before after (cuts_given ys (cuts_of splits))
    (λ q. cuts-rest ys splits i e d q l m) more h

pub cuts-right-step : (ys : List ℕ) (splits : List OpenSplit) (i : ℕ) (e : ℕ) (d : OpenSplit) (sum next all : ℤ) → i < length ys
    → i < length splits → next ≡ sum +ℤ pos (get_or ys i e) *ℤ (cut_of (get_or splits i d)).most
    → sum +ℤ cuts_right (drop i ys) (cuts_of (drop i splits)) ≡ all → next +ℤ cuts_right (drop (i + 1) ys) (cuts_of (drop (i + 1) splits)) ≡ all
cuts-right-step ys splits i e d sum next all l m s h =
    let first = pos (get_or ys i e) *ℤ (cut_of (get_or splits i d)).most in
    let split : cuts_right (drop i ys) (cuts_of (drop i splits)) ≡ first +ℤ cuts_right (drop (i + 1) ys) (cuts_of (drop (i + 1) splits)) =
    ap₂ (λ (ms : List ℕ) (ss : List OpenSplit). cuts_right ms (cuts_of ss)) (rest ys i e l) (rest splits i d m) in
    omega (arith, ints)

-- ---------- rows ----------

pub rows-step : (rows : Form) (forms : List Form) (i : ℕ) (d : ℕ × ℤ) (start before after : List ℤ) → i < length rows
    → AreGivenMore (form_given (get_or rows i d).1 (form_at forms (get_or rows i d).0)) before after
    → ((q : ℕ) → number_at before q +ℤ rows_given (drop i rows) forms q ≡ number_at start q +ℤ rows_given rows forms q)
    → (q : ℕ) → number_at after q +ℤ rows_given (drop (i + 1) rows) forms q ≡ number_at start q +ℤ rows_given rows forms q
rows-step rows forms i d start before after l more h =
    given-step (rows_given (drop i rows) forms) (form_given (get_or rows i d).1 (form_at forms (get_or rows i d).0))
    (rows_given (drop (i + 1) rows) forms) start before after (rows_given rows forms)
    (λ q. ap (λ (rs : Form). rows_given rs forms q) (rest rows i d l)) more h
