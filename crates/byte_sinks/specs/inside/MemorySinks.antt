-- Sinks in memory, as contracts see them: one with limits, and one that grows.
use Rattle.std.specs.Prelude.{ℕ, List}
use Rattle.byte_sinks.specs.MemorySinks.{Grown, Limited}

-- a limited sink that has taken these bytes, with this much room, this limit of one put and this many failures
abbrev pub limited : List ℕ → ℕ → ℕ → ℕ → Limited
limited taken room most failures = record { taken = taken; room = room; most = most; failures = failures }

-- a growing sink that has taken these bytes, with room for this many in all and this many failures
abbrev pub grown : List ℕ → ℕ → ℕ → Grown
grown taken room failures = record { taken = taken; room = room; failures = failures }
