-- Bounds, column by column.
use Rattle.std.proofs.Common.{◌≡◌, ℕ, zero, suc, ◌+◌, Bool, not, cond, List, [], ◌∷◌, Some, slice_get, drop, refl}
use Rattle.std.specs.List.{position_from, zip}
use Rattle.std.specs.Option.{option_map}
use Rattle.program_rows.specs.declared.column.Bounds.{Bounds}
use Rattle.program_rows.specs.Program.{TableColumn}
use Rattle.program_rows.specs.Points.{allows}

-- the bounds of a column don't allow its value
abbrev pub breaks : TableColumn × Bool → Bool
breaks e = not (allows e.0.bounds e.1)

-- the column at a place is the first that breaks its bounds, or that is one after it
pub bound_at : (place i : ℕ) (columns : List TableColumn) (values : List Bool) (b : Bounds) (v t : Bool)
    → option_map (λ c. c.bounds) (slice_get columns i) ≡ Some b → slice_get values i ≡ Some v → allows b v ≡ t
    → position_from breaks place (zip (drop i columns) (drop i values))
    ≡ cond (not t) (Some place) (position_from breaks (place + 1) (zip (drop (suc i) columns) (drop (suc i) values)))
bound_at place zero [] values b v t e f h = cc e
bound_at place zero (c ∷ columns) [] b v t e f h = cc f
bound_at place zero (c ∷ columns) (w ∷ values) b v t e f h =
    let bounds : c.bounds ≡ b = cc in
    let value : w ≡ v = cc in
    rw (bounds, value, h) refl
bound_at place (suc i) [] values b v t e f h = cc e
bound_at place (suc i) (c ∷ columns) [] b v t e f h = cc f
bound_at place (suc i) (c ∷ columns) (w ∷ values) b v t e f h = bound_at place i columns values b v t e f h
