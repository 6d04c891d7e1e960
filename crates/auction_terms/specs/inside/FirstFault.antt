-- The first fault of a list whose items are checked one after the other, each given those before it.
use Rattle.std.specs.Prelude.{◌≡◌, ◌≢◌, Bool, List, [], Option, Some, None, Result, Ok, Err, ⊤}
use Rattle.std.specs.Bool.{MatchBool}
use Rattle.auction_terms.specs.FirstFault.{first_failed}
use Rattle.auction_terms.specs.Judged.{Fault, kept_fault}
use Rattle.auction_terms.specs.declared.judge.FaultAt.{FaultAt}

-- the result is the value where no check found a fault, and else that fault, or memory was short
abbrev pub Tells : {T F : Type 0} → (F → Bool) → Result T F → Option F → T → Type 0
Tells is_memory (Ok x) found value = (found ≡ None) × (x ≡ value)
Tells is_memory (Err f) found value = MatchBool (is_memory f) ⊤ (found ≡ Some f)

-- the result is the value where no check failed, and else the kept fault of the first that did
abbrev pub Passes : {T F : Type 0} → Result T (FaultAt F) → List (Bool × Fault F) → T → Type 0
Passes (Ok x) checks value = (first_failed checks ≡ None) × (x ≡ value)
Passes (Err at) checks value = first_failed checks ≡ Some (kept_fault at)

-- a value is given just where there is no fault, and then it is this one
abbrev pub Gives : {T F : Type 0} → List (Fault F) → Option T → T → Type 0
Gives faults None value = faults ≢ []
Gives faults (Some x) value = (faults ≡ []) × (x ≡ value)

-- the result, whatever its value, agrees with the checks: there is one only if they found no fault, and else it is their fault, or memory was short
abbrev pub TellsFault : {T F : Type 0} → (F → Bool) → Result T F → Option F → Type 0
TellsFault is_memory (Ok x) found = found ≡ None
TellsFault is_memory (Err f) found = MatchBool (is_memory f) ⊤ (found ≡ Some f)
