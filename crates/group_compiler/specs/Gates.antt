-- What is known of groups at a gate. Numbers are counted from 0, and groups from 1.
use Rattle.std.specs.Prelude.{ℕ, ◌+◌, ◌<◌}

-- each of so many groups has come past
abbrev pub AreAllPast : ℕ → (ℕ → Type 0) → Type 0
AreAllPast groups is_past = (n : ℕ) → n < groups → is_past (n + 1)

-- something may be made of a number once the group with that number has come past, if there is one
abbrev pub IsDueOncePast : ℕ → (ℕ → Type 0) → (ℕ → Type 0) → Type 0
IsDueOncePast groups is_past is_due = (n : ℕ) → (n < groups → is_past (n + 1)) → is_due n
