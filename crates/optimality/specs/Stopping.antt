-- When the code answers that a number is too large.
use Rattle.std.specs.Prelude.{Result, Ok, Err}
use Rattle.optimality.specs.declared.refusal.Limit.{Limit}
use Rattle.optimality.specs.declared.refusal.Limit.TheVariants.{Memory, TooLarge}

-- only where this holds
abbrev pub TooLargeOnly : {X : Type 0} → Type 0 → Result X Limit → Type 0
TooLargeOnly holds (Ok x) = Unit {0}
TooLargeOnly holds (Err Memory) = Unit {0}
TooLargeOnly holds (Err TooLarge) = holds
