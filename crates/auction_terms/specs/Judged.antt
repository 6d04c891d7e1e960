-- The faults of a text as a list, each with its place, the first bytes there and its cause; and how many of them are kept.
use Rattle.std.specs.Prelude.{◌≡◌, ◌≢◌, ◌-◌, ◌^◌, ◌++◌, min, Bool, ℕ, List, [], ◌∷◌, Option, Some, Result, Ok, Err, length, map, option_map, option_to_list, take}
use Rattle.auction_terms.specs.FirstFault.{first_failed}
use Rattle.auction_terms.specs.declared.judge.All.{All}
use Rattle.auction_terms.specs.declared.judge.Cause.{Cause}
use Rattle.auction_terms.specs.declared.judge.Cause.TheVariants.{Words, Both, Wanted}
use Rattle.auction_terms.specs.declared.judge.FaultAt.{FaultAt}
use Rattle.auction_terms.specs.declared.limits.TheConstants.{FRONT_LEN, MOST_FAULTS}
use Rattle.auction_terms.specs.Wording.{wording_text}

-- a fault, the number of the field or name at which it is (0: the whole record or line), the first bytes there, and what is wrong in words
-- (none where the fault's own name says it)
pub record Fault (F : Type 0) : Type 0 where
  pub field : ℕ
  pub text : List ℕ
  pub fault : F
  pub cause : Option (List ℕ)

-- the fault of a field or name of this number, with these bytes and this cause
abbrev pub fault_at : {F : Type 0} → ℕ → List ℕ → F → List ℕ → Fault F
fault_at field text fault cause = record { field = field; text = take FRONT_LEN text; fault = fault; cause = Some cause }

-- the fault of a whole record or line
abbrev pub fault_of_whole : {F : Type 0} → F → Option (List ℕ) → Fault F
fault_of_whole fault cause = record { field = 0; text = []; fault = fault; cause = cause }

-- the fault of a text as that of what the text is part of
abbrev pub reported_as : {F G : Type 0} → G → Fault F → Fault G
reported_as whole at = record { field = at.field; text = at.text; fault = whole; cause = at.cause }

-- the fault of the first check that is not passed, where each check rests on those before it
abbrev pub fault_of : {F : Type 0} → List (Bool × Fault F) → List (Fault F)
fault_of checks = option_to_list (first_failed checks)

-- what a text without a fault gives, and else its first fault
abbrev pub first_or : {A F : Type 0} → List (Fault F) → A → Result A F
first_or [] value = Ok value
first_or (fault ∷ more) value = Err fault.fault

-- a cause in words
abbrev pub cause_text : Cause → List ℕ
cause_text (Words words) = wording_text words
cause_text (Both words more) = wording_text words ++ wording_text more
cause_text (Wanted words name) = words.now ++ name

-- a kept fault
abbrev pub kept_fault : {F : Type 0} → FaultAt F → Fault F
kept_fault at = record { field = at.field; text = at.text; fault = at.fault; cause = option_map cause_text at.cause }

-- of these faults the first ones are kept, so many at most, and the others counted, up to 2 ^ 64 - 1
pub record Holds {F : Type 0} (most : ℕ) (all : All F) (faults : List (Fault F)) : Type 0 where
  pub limit : all.most ≡ most
  pub kept : map kept_fault all.kept.items ≡ take most faults
  pub more : all.more ≡ min (length faults - most) (2 ^ 64 - 1)

-- after the faults that were found before, these were found
abbrev pub HoldsMore : {F : Type 0} → All F → All F → List (Fault F) → Type 0
HoldsMore {F} old new more = (most : ℕ) (faults : List (Fault F)) → Holds most old faults → Holds most new (faults ++ more)

-- what a reader returns that wants all faults of a text: what the text describes, or its faults, if there are any
abbrev pub IsReading : {A F : Type 0} → Result A F → List (Fault F) → Result A (All F) → Type 0
IsReading described faults (Ok value) = described ≡ Ok value
IsReading described faults (Err all) = (faults ≢ []) × Holds MOST_FAULTS all faults
