-- Certificates: trees of splits, whose leaves show a bound.
use Rattle.std.specs.Prelude.{Bool, false, cond, List, slice_index_or, ℤ, pos}
use Rattle.optimality.specs.Certificates.{Form, sum_of}

-- the sum of a form over the columns at 1
abbrev pub form_sum : Form → List Bool → ℤ
form_sum form values = sum_of (λ t. cond (slice_index_or values t.0 false) t.1 (pos 0)) form
