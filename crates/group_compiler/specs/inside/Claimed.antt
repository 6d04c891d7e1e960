-- What contracts see of a counter and of a claim: of the counter what distinguishes it from others, of the claim its counter and its draws.
use Rattle.std.specs.Prelude.{ℕ, List}
use Rattle.atomic_table.specs.Seated.{TableId}
use Rattle.group_compiler.specs.Claimed.{Claimed}

-- a claim on this counter, with these numbers drawn and this many draws left
abbrev pub claimed : TableId → List ℕ → ℕ → Claimed
claimed counter drawn room = record { counter = counter; drawn = drawn; room = room }
