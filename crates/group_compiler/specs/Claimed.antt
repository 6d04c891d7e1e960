-- What contracts see of a counter and of a claim: of the counter what distinguishes it from others, of the claim its counter and its draws.
use Rattle.std.specs.Prelude.{◌≡◌, ℕ, List}
use Rattle.atomic_table.specs.Seated.{TableId}

-- what contracts see of a claim: the counter that it draws from, the numbers that it has drawn, and how many draws it has left
pub record Claimed : Type 0 where
  pub counter : TableId
  -- the numbers that the claim has drawn, in order
  pub drawn : List ℕ
  -- how many draws it may still make
  pub room : ℕ

-- the claim is of this counter
abbrev pub IsOf : TableId → Claimed → Type 0
IsOf counter claim = claim.counter ≡ counter
