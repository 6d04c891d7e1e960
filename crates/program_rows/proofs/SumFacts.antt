-- Sums over the columns at 1, column by column.
use Rattle.std.proofs.Common.{◌≡◌, ℕ, zero, suc, ◌+◌, ◌<◌, Bool, true, false, cond, List, [], ◌∷◌, Option, Some, None, drop}
use Rattle.std.proofs.Common.{length, slice_get, slice_index_or, sym, refl, ap, ◌∙◌, arith, ◌*◌, ◌^◌, ℤ, pos, negsuc, neg_ℤ}
use Rattle.std.proofs.Common.{◌+ℤ◌, ◌≤ℤ◌}
use lib.Signed.{mag}
use Rattle.std.specs.Prelude.{find, ◌==◌}
use Rattle.std.specs.Option.{option_map, option_map_or}
use Rattle.std.proofs.lemmas.Int.{ints}
use Rattle.std.proofs.lemmas.Option.{same_Some}
use Rattle.program_rows.specs.Program.{TableColumn}
use Rattle.program_rows.specs.Points.{coefficient_at, sum_at_one}
use Rattle.program_rows.proofs.EachFacts.{item_at}

one_more : (f : TableColumn → ℤ) (c : TableColumn) (cs : List TableColumn) (v : Bool) (vs : List Bool)
    → sum_at_one f (c ∷ cs) (v ∷ vs) ≡ cond v (f c) (pos 0) +ℤ sum_at_one f cs vs
one_more f c cs true vs = refl
one_more f c cs false vs = let z : ℤ = sum_at_one f cs vs in let e : z ≡ pos 0 +ℤ z = omega (arith, ints) in e

same_number : (f : TableColumn → ℤ) (c : TableColumn) (n : ℤ) → option_map f (Some c) ≡ Some n → f c ≡ n
same_number f c n e = cc

at_place : (f : TableColumn → ℤ) (cs : List TableColumn) (vs : List Bool) (i : ℕ) (n : ℤ) (d : Bool) → option_map f (slice_get cs i) ≡ Some n → i < length vs
    → sum_at_one f (drop i cs) (drop i vs) ≡ cond (slice_index_or vs i d) n (pos 0) +ℤ sum_at_one f (drop (suc i) cs) (drop (suc i) vs)
at_place f [] vs i n d e l = cc
at_place f (c ∷ cs) [] i n d e l = absurd (omega arith)
at_place f (c ∷ cs) (v ∷ vs) zero n d e l = one_more f c cs v vs ∙ ap (λ (m : ℤ). cond v m (pos 0) +ℤ sum_at_one f cs vs) (same_number f c n e)
at_place f (c ∷ cs) (v ∷ vs) (suc i) n d e l = at_place f cs vs i n d e (omega arith)

pub sum_step : (f : TableColumn → ℤ) (cs : List TableColumn) (vs : List Bool) (i : ℕ) (n : ℤ) (d : Bool) (sum next all : ℤ)
    → option_map f (slice_get cs i) ≡ Some n → i < length vs
    → next ≡ sum +ℤ cond (slice_index_or vs i d) n (pos 0) → sum +ℤ sum_at_one f (drop i cs) (drop i vs) ≡ all
    → next +ℤ sum_at_one f (drop (i + 1) cs) (drop (i + 1) vs) ≡ all
sum_step f cs vs i n d sum next all e l s h =
    let after : i + 1 ≡ suc i = omega arith in
    let rest : ℤ = sum_at_one f (drop (suc i) cs) (drop (suc i) vs) in
    let part : ℤ = cond (slice_index_or vs i d) n (pos 0) in
    let whole : ℤ = sum_at_one f (drop i cs) (drop i vs) in
    let a : whole ≡ part +ℤ rest = at_place f cs vs i n d e l in
    let b : next ≡ sum +ℤ part = s in
    let g : sum +ℤ whole ≡ all = h in
    let t : next +ℤ rest ≡ all = omega (arith, ints) in
    ap (λ (k : ℕ). next +ℤ sum_at_one f (drop k cs) (drop k vs)) after ∙ t

-- one number more keeps a sum within its bounds
pub sum_bounds : (v : Bool) (n sum next : ℤ) (i : ℕ) → mag n < 2 ^ 63 → neg_ℤ (pos (i * 2 ^ 63)) ≤ℤ sum → sum ≤ℤ pos (i * 2 ^ 63)
    → next ≡ sum +ℤ cond v n (pos 0)
    → (neg_ℤ (pos ((i + 1) * 2 ^ 63)) ≤ℤ next) × (next ≤ℤ pos ((i + 1) * 2 ^ 63))
sum_bounds false n sum next i m low high e = (omega (arith, ints), omega (arith, ints))
sum_bounds true (pos k) sum next i m low high e = (omega (arith, ints), omega (arith, ints))
sum_bounds true (negsuc k) sum next i m low high e = (omega (arith, ints), omega (arith, ints))

-- the coefficient of the column at a place, by its entries
pub coefficient_there : (row : ℕ) (o : Option TableColumn) (es : List (ℕ × ℤ)) (n : ℤ)
    → option_map (λ (c : TableColumn). c.entries) o ≡ Some es → n ≡ option_map_or (λ e. e.1) (find (λ e. e.0 == row) es) (pos 0)
    → option_map (coefficient_at row) o ≡ Some n
coefficient_there row None es n e h = cc
coefficient_there row (Some c) es n e h =
    let same : c.entries ≡ es = cc in
    ap (λ (xs : List (ℕ × ℤ)). Some (option_map_or (λ e. e.1) (find (λ e. e.0 == row) xs) (pos 0))) same ∙ ap (λ (m : ℤ). Some m) (sym h)

-- the number at a place, which there is
pub number_there : (f : TableColumn → ℤ) (cs : List TableColumn) (i : ℕ) → i < length cs → (n : ℤ) × (option_map f (slice_get cs i) ≡ Some n)
number_there f cs i l = let c = item_at cs i l in (f c.0, ap (option_map f) c.1)

-- what is added, by its size
within : (n sum : ℤ) → mag n < 2 ^ 63 → ((sum +ℤ neg_ℤ (pos (2 ^ 63))) ≤ℤ (sum +ℤ n)) × ((sum +ℤ n) ≤ℤ (sum +ℤ pos (2 ^ 63)))
within (pos k) sum m = (omega (arith, ints), omega (arith, ints))
within (negsuc k) sum m = (omega (arith, ints), omega (arith, ints))

pub near_low : (sum next : ℤ) (i : ℕ) → neg_ℤ (pos (i * 2 ^ 63)) ≤ℤ sum → (sum +ℤ neg_ℤ (pos (2 ^ 63))) ≤ℤ next → neg_ℤ (pos ((i + 1) * 2 ^ 63)) ≤ℤ next
near_low sum next i a b = omega (arith, ints)

pub near_high : (sum next : ℤ) (i : ℕ) → sum ≤ℤ pos (i * 2 ^ 63) → next ≤ℤ (sum +ℤ pos (2 ^ 63)) → next ≤ℤ pos ((i + 1) * 2 ^ 63)
near_high sum next i a b = omega (arith, ints)

-- what is added if the value is 1, and if it isn't
pub added_one : (v : Bool) (o : Option ℤ) (sum next k : ℤ) → v ≡ true → o ≡ Some k → next ≡ sum +ℤ cond v k (pos 0) → mag k < 2 ^ 63
    → ((n : ℤ) → o ≡ Some n → next ≡ sum +ℤ cond v n (pos 0)) × ((sum +ℤ neg_ℤ (pos (2 ^ 63))) ≤ℤ next) × (next ≤ℤ (sum +ℤ pos (2 ^ 63)))
added_one true o sum next k t e f m = (
  (λ n g. f ∙ ap (λ (x : ℤ). sum +ℤ x) (same_Some k n (sym e ∙ g))),
  rw f (within k sum m).0,
  rw f (within k sum m).1,
)
added_one false o sum next k t e f m = cc
