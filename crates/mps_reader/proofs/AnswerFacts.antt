-- A refusal that is handed on.
use Rattle.std.proofs.Common.{◌≡◌, sym, subst, Option, Some, None}
use Rattle.std.specs.Prelude.{Result, Ok, Err}
use Rattle.program_rows.specs.declared.mps_fault_kind.MpsFaultKind.{MpsFaultKind}
use Rattle.mps_reader.specs.inside.Reading.{AnswersFault, AnswersUpTo}
use Rattle.mps_reader.specs.declared.refusal.Refusal.{Refusal}
use Rattle.mps_reader.specs.declared.refusal.Refusal.TheVariants.{Memory, Fault}

-- a refusal of the callee answers the checks of the caller, if what the callee finds is what the caller's checks find
pub handed-on : (X : Type 0) {Y : Type 0} (to : Result Y Refusal) (e : Refusal) (f g : Option MpsFaultKind) → to ≡ Err e
    → ((kind : MpsFaultKind) → f ≡ Some kind → g ≡ Some kind) → AnswersFault {X = X} (Err e) f → AnswersFault to g
handed-on X {Y} to e f g b step h = subst (λ t. AnswersFault t g) (sym b) (by e h)
  where
    by : (e : Refusal) → AnswersFault {X = X} (Err e) f → AnswersFault {X = Y} (Err e) g
    by Memory h = tt
    by (Fault kind) h = step kind h

-- what is taken has no fault
pub taken : {X : Type 0} (r : Result X Refusal) (x : X) (f : Option MpsFaultKind) → r ≡ Ok x → AnswersFault r f → f ≡ None
taken r x f e h = subst (λ t. AnswersFault t f) e h

-- a refusal of a callee that makes all checks but the last answers all of them
pub handed-up : (X : Type 0) {Y : Type 0} (to : Result Y Refusal) (e : Refusal) (f last g : Option MpsFaultKind) → to ≡ Err e
    → ((kind : MpsFaultKind) → f ≡ Some kind → g ≡ Some kind) → AnswersUpTo {X = X} (Err e) f last → AnswersFault to g
handed-up X {Y} to e f last g b step h = subst (λ t. AnswersFault t g) (sym b) (by e h)
  where
    by : (e : Refusal) → AnswersUpTo {X = X} (Err e) f last → AnswersFault {X = Y} (Err e) g
    by Memory h = tt
    by (Fault kind) h = step kind h
