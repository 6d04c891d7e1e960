-- The counter from which workers draw group numbers: what each claim has drawn, and the rule of all claims together.
use Rattle.std.specs.Prelude.{◌≡◌, ℕ, cond, ◌==◌, nat_lt, List, count_by}

-- how often x was drawn
abbrev pub times_drawn : ℕ → List ℕ → ℕ
times_drawn x drawn = count_by (λ y. y == x) drawn

-- 1 of a number below n, and else 0
abbrev pub once_below : ℕ → ℕ → ℕ
once_below x n = cond (nat_lt x n) 1 0

-- the list holds the numbers below n, each once, and no other
abbrev pub IsEachBelow : ℕ → List ℕ → Type 0
IsEachBelow n drawn = (x : ℕ) → times_drawn x drawn ≡ once_below x n
