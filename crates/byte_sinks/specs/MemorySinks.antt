-- Sinks in memory, as contracts see them: one with limits, and one that grows.
use Rattle.std.specs.Prelude.{ℕ, List}

-- a sink in memory with limits: on all bytes that it takes, and on those of one put
pub record Limited : Type 0 where
  -- the bytes that it has taken
  pub taken : List ℕ
  -- how much it still takes, and how much of that in one put
  pub room : ℕ
  pub most : ℕ
  -- how many puts have failed
  pub failures : ℕ

-- a sink in memory that grows as it takes bytes
pub record Grown : Type 0 where
  -- the bytes that it has taken
  pub taken : List ℕ
  -- for how many bytes, these among them, it has room without a growth
  pub room : ℕ
  -- how many puts have failed
  pub failures : ℕ
