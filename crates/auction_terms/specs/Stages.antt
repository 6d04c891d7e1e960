-- A run in stages: each takes what the one before it gives, and the first refusal ends the run.
use Rattle.std.specs.Prelude.{◌≡◌, ◌+◌, ⊤, ℕ, Bool, List, [], ◌∷◌, Option, None, Some, Result, Ok, Err}
use Rattle.std.specs.Bool.{MatchBool}

-- the next stage
abbrev pub and_then : {A B E : Type 0} → Result A E → (A → Result B E) → Result B E
and_then (Ok x) next = next x
and_then (Err refusal) next = Err refusal

-- a stage whose own faults are reported as refusals
abbrev pub refused_as : {A F E : Type 0} → (F → E) → Result A F → Result A E
refused_as refusal (Ok x) = Ok x
refused_as refusal (Err fault) = Err (refusal fault)

-- a fault, if there is one, and else what comes next
abbrev pub unless : {A F : Type 0} → Option F → Result A F → Result A F
unless None next = next
unless (Some fault) next = Err fault

-- the result is what is parsed, or memory was short
abbrev pub Answers : {A F : Type 0} → (F → Bool) → Result A F → Result A F → Type 0
Answers is_memory (Ok x) parsed = Ok x ≡ parsed
Answers is_memory (Err fault) parsed = MatchBool (is_memory fault) ⊤ (Err fault ≡ parsed)

-- what each item gives, where they are numbered from n on; or the first refusal
abbrev pub each_in_turn : {X A E : Type 0} → (ℕ → X → Result A E) → ℕ → List X → Result (List A) E
each_in_turn parse n [] = Ok []
each_in_turn parse n (x ∷ xs) = and_then (parse n x) (λ parsed. and_then (each_in_turn parse (n + 1) xs) (λ more. Ok (parsed ∷ more)))
