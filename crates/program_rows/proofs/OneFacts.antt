-- The columns at 1, by their places.
use Rattle.std.proofs.Common.{◌≡◌, ℕ, ◌+◌, ◌<◌, Bool, true, false, List, [], ◌∷◌, Option, Some, None, drop}
use Rattle.std.proofs.Common.{length, slice_get, slice_index_or, sym, refl, ap, ◌∙◌, arith, ℤ, pos, ◌+ℤ◌}
use Rattle.std.specs.List.{AllByRecursion}
use Rattle.std.specs.Option.{option_map, option_map_or}
use Rattle.std.proofs.lemmas.Int.{ints}
use Rattle.std.proofs.lemmas.List.{drop_more}
use Rattle.std.proofs.lemmas.List.Elements.{All-from_recursion, All-get_or}
use Rattle.program_rows.specs.Program.{TableColumn}
use Rattle.program_rows.specs.Points.{sum_at_one}
use Rattle.program_rows.specs.inside.Ones.{ones_from, sum_at}
use Rattle.program_rows.proofs.EachFacts.{item_at}

-- the places are those of values
pub ones-within : (k n : ℕ) (values : List Bool) → k + length values ≡ n → AllByRecursion (λ i. i < n) (ones_from k values)
ones-within k n [] e = tt
ones-within k n (true ∷ values) e = (omega arith, ones-within (k + 1) n values (omega arith))
ones-within k n (false ∷ values) e = ones-within (k + 1) n values (omega arith)

none-left : (f : TableColumn → ℤ) (columns : List TableColumn) → pos 0 ≡ sum_at_one f columns []
none-left f [] = refl
none-left f (c ∷ columns) = refl

-- the sum over the places of the values that are 1 is that over the columns at 1
pub sum-at-ones : (f : TableColumn → ℤ) (columns : List TableColumn) (k : ℕ) (values : List Bool) → k + length values ≡ length columns
    → sum_at f columns (ones_from k values) ≡ sum_at_one f (drop k columns) values
sum-at-ones f columns k [] e = none-left f (drop k columns)
sum-at-ones f columns k (true ∷ values) e =
    let (c, at, next) = item_at columns k (omega arith) in
    ap (λ (o : Option TableColumn). option_map_or f o (pos 0) +ℤ sum_at f columns (ones_from (k + 1) values)) at
    ∙ ap (λ (z : ℤ). f c +ℤ z) (sum-at-ones f columns (k + 1) values (omega arith))
    ∙ ap (λ (cs : List TableColumn). sum_at_one f cs (true ∷ values)) (sym next)
sum-at-ones f columns k (false ∷ values) e =
    let (c, at, next) = item_at columns k (omega arith) in
    sum-at-ones f columns (k + 1) values (omega arith) ∙ ap (λ (cs : List TableColumn). sum_at_one f cs (false ∷ values)) (sym next)

number-at : (f : TableColumn → ℤ) (o : Option TableColumn) (n : ℤ) → option_map f o ≡ Some n → option_map_or f o (pos 0) ≡ n
number-at f None n e = cc e
number-at f (Some c) n e = cc e

-- one place more is added up
pub at-step : (f : TableColumn → ℤ) (columns : List TableColumn) (places : List ℕ) (k : ℕ) (n sum next all : ℤ) → k < length places
    → option_map f (slice_get columns (slice_index_or places k 0)) ≡ Some n → next ≡ sum +ℤ n
    → sum +ℤ sum_at f columns (drop k places) ≡ all → next +ℤ sum_at f columns (drop (k + 1) places) ≡ all
at-step f columns places k n sum next all within is s h =
    let rest : ℤ = sum_at f columns (drop (k + 1) places) in
    let whole : ℤ = sum_at f columns (drop k places) in
    let front : whole ≡ n +ℤ rest =
    ap (sum_at f columns) (drop_more places k 0 within) ∙ ap (λ (z : ℤ). z +ℤ rest) (number-at f (slice_get columns (slice_index_or places k 0)) n is) in
    omega (arith, ints)

-- what holds of all places holds of one
pub place-within : (P : ℕ → Type 0) (places : List ℕ) (k : ℕ) → k < length places → AllByRecursion P places → P (slice_index_or places k 0)
place-within P places k within all = All-get_or P places k 0 within (All-from_recursion P places all)
