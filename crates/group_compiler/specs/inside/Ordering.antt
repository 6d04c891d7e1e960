-- Slots that are filled by number.
use Rattle.std.specs.Prelude.{◌≡◌, ℕ, List, Option, Some, slice_get}

-- the slot has what its number makes
pub record HasMade {T : Type 0} (makes : ℕ → T → Type 0) (slots : List (Option T)) (k : ℕ) : Type 0 where
  pub found : T
  pub slot : slice_get slots k ≡ Some (Some found)
  pub right : makes k found
