use Rattle.std.proofs.Common.{◌≡◌, ◌+◌, ◌*◌, ◌≤◌, length, pos, ◌+ℤ◌, vec_len}
use Rattle.std.specs.Prelude.{unsigned_abs}
use Rattle.optimality.specs.Sizes.{costs_size}
use Rattle.optimality.specs.Adding.{number_at}
use Rattle.optimality.specs.inside.Adding.{least_with, sizes_below}
use Rattle.optimality.proofs.by_rows.least_total.Given as goal

-- the total so far, and what the sums that are left change of it; their sizes, and with them that of the total
abbrev pub invariant-loop-column : goal.invariant-loop-column
invariant-loop-column l = (l.total +ℤ least_with (pos l.scale) (number_at l.sums.numbers.items) l.program.columns ≡ l.alone +ℤ least_with
    (pos l.scale) (number_at l.fn.sums.numbers.items) l.program.columns)
    × (sizes_below (length l.program.columns) l.sums.numbers.items ≤ sizes_below (length l.program.columns) l.fn.sums.numbers.items)
    × (unsigned_abs l.total + sizes_below (length l.program.columns) l.sums.numbers.items ≤ l.scale * costs_size l.program.columns +
    sizes_below (length l.program.columns) l.fn.sums.numbers.items)

abbrev pub decreases-loop-column : goal.decreases-loop-column
decreases-loop-column l = vec_len l.sums.places
