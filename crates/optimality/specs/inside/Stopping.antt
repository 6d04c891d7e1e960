-- When the code answers that a number of a leaf or a line is too large.
use Rattle.std.specs.Prelude.{ℕ, ◌+◌, ◌*◌, ◌^◌, ◌≤◌, List, ℤ, Result, Ok, Err, unsigned_abs}
use Rattle.std.specs.List.{zip}
use Rattle.program_rows.specs.Program.{TableRow, TableColumn}
use Rattle.optimality.specs.Certificates.{Form, Cut}
use Rattle.optimality.specs.Reduced.{right_side_at}
use Rattle.optimality.specs.Sizes.{coefficients_size, size_of}
use Rattle.optimality.specs.inside.Sizes.{form_size}
use Rattle.optimality.specs.declared.refusal.Limit.TheVariants.{Memory, TooLarge}
use Rattle.optimality.specs.declared.refusal.Refusal.{Refusal}
use Rattle.optimality.specs.declared.refusal.Refusal.TheVariants.{Stopped, Fault}
use Rattle.optimality.specs.Adding.{number_at}

-- the code refuses a line because a number is too large only if this holds
abbrev pub RefusedLargeOnly : {X : Type 0} → Type 0 → Result X Refusal → Type 0
RefusedLargeOnly holds (Ok x) = Unit {0}
RefusedLargeOnly holds (Err (Stopped Memory)) = Unit {0}
RefusedLargeOnly holds (Err (Stopped TooLarge)) = holds
RefusedLargeOnly holds (Err (Fault kind)) = Unit {0}

-- at some place the number and what may be added come to 2^126
abbrev pub ReachesLimit : List ℤ → ℕ → Type 0
ReachesLimit numbers size = (q : ℕ) × (2 ^ 126 ≤ unsigned_abs (number_at numbers q) + size)

-- what cuts and rows give all columns
abbrev pub given_size : List TableColumn → List ℕ → List Cut → Form → ℕ
given_size columns ys cuts rows = size_of (λ e. e.0 * form_size e.1.form) (zip ys cuts) + size_of (λ t. unsigned_abs t.1 * coefficients_size columns t.0) rows

-- their right sides
abbrev pub right_size : List TableRow → List ℕ → List Cut → Form → ℕ
right_size table ys cuts rows = size_of (λ e. e.0 * unsigned_abs e.1.most) (zip ys cuts) + size_of
    (λ t. unsigned_abs t.1 * unsigned_abs (right_side_at table t.0)) rows
