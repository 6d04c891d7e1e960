-- What a certificate shows: no point of a program has an objective below `least`.
use Rattle.std.specs.Prelude.{◌≡◌, ℕ, Bool, true, false, List, [], ◌∷◌, ◌++◌, slice_get, ℤ, pos, ◌+ℤ◌, ◌-ℤ◌, ◌*ℤ◌, ◌<ℤ◌, int_le}
use Rattle.std.specs.Option.{option_map_or}
use Rattle.std.specs.List.{AllByRecursion, enumerate_from, zip}
use Rattle.program_rows.specs.declared.row.RowKind.{RowKind}
use Rattle.program_rows.specs.declared.row.RowKind.TheVariants.{AtMost, AtLeast, Equal}
use Rattle.program_rows.specs.Program.{Table, TableRow}
use Rattle.optimality.specs.Certificates.{Form, Cut, Certificate, Bound, Split, side, sum_of}
use Rattle.optimality.specs.Reduced.{reduced, least_part, right_side_at}

-- a row of this kind may have this multiplier: 0 or more for an upper limit, 0 or less for a lower limit, any number for an equation
abbrev pub has_sign : RowKind → ℤ → Bool
has_sign AtMost y = int_le (pos 0) y
has_sign AtLeast y = int_le y (pos 0)
has_sign Equal y = true

-- there is a row at this place, and it may have this multiplier
abbrev pub may_have : List TableRow → ℕ × ℤ → Bool
may_have rows t = option_map_or (λ r. has_sign r.kind t.1) (slice_get rows t.0) false

-- the least that the reduced costs come to, less the right sides of cuts and rows, each times its multiplier
abbrev pub leaf_value : Table → List Cut → ℕ → List ℕ → Form → ℤ
leaf_value p cuts scale ys rows =
    sum_of (λ e. least_part e.1.bounds (reduced scale ys cuts rows e.0 e.1)) (enumerate_from 0 p.columns)
    -ℤ (sum_of (λ e. pos e.0 *ℤ e.1.most) (zip ys cuts) +ℤ sum_of (λ t. t.1 *ℤ right_side_at p.rows t.0) rows)

-- a leaf shows `least` for the points within the cuts: its value is above `scale` times `least` - 1
pub record LeafShows (p : Table) (least : ℤ) (cuts : List Cut) (scale : ℕ) (ys : List ℕ) (rows : Form) : Type 0 where
  pub signs : AllByRecursion (λ t. may_have p.rows t ≡ true) rows
  pub above : (pos scale *ℤ (least -ℤ pos 1)) <ℤ leaf_value p cuts scale ys rows

-- a certificate shows `least` for the points within the cuts: each of its leaves does, within these cuts and those on the way to the leaf
abbrev pub ShowsWithin : Table → ℤ → List Cut → Certificate → Type 0
ShowsWithin p least cuts (Bound scale ys rows) = LeafShows p least cuts scale ys rows
ShowsWithin p least cuts (Split form most low high) =
    ShowsWithin p least (cuts ++ side false form most ∷ []) low × ShowsWithin p least (cuts ++ side true form most ∷ []) high

-- a certificate shows `least` for a program: that no point of the program has an objective below it
abbrev pub Shows : Table → ℤ → Certificate → Type 0
Shows p least certificate = ShowsWithin p least [] certificate
