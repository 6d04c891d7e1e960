-- Where TooLarge is answered, handed on.
use Rattle.std.proofs.Common.{◌≡◌, Result, Ok, Err, subst, sym}
use Rattle.std.specs.Prelude.{IsErrAnd}
use Rattle.optimality.specs.declared.refusal.Limit.{Limit}
use Rattle.optimality.specs.declared.refusal.Limit.TheVariants.{Memory, TooLarge}
use Rattle.optimality.specs.Stopping.{TooLargeOnly}

-- by a last call
pub too-large-weaker : {X P Q : Type 0} → (r : Result X Limit) → TooLargeOnly P r → (P → Q) → TooLargeOnly Q r
too-large-weaker (Err TooLarge) h f = f h
too-large-weaker _ h f = tt

-- by `?`
pub too-large-passed : {X P Q : Type 0} → (Y : Type 0) (r : Result X Limit) (e : Limit) → IsErrAnd r (λ y. y ≡ e)
    → TooLargeOnly {X = Y} P (Err e) → (P → Q) → TooLargeOnly Q r
too-large-passed Y (Ok x) e is h f = absurd is
too-large-passed Y (Err Memory) e is h f = tt
too-large-passed {P = P} Y (Err TooLarge) e is h f = f (subst (λ (l : Limit). TooLargeOnly {X = Y} P (Err l)) (sym is) h)
