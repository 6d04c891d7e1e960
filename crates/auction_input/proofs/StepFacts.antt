-- What follows of one step for what is made of it.
use Rattle.std.proofs.Common.{◌≡◌, Result, Ok, Err, sym, subst}
use Rattle.std.specs.Prelude.{IfErr, IsErrAnd, OnErr, OnOk}

-- what holds of each error that a result can be holds where it is one
pub if-err-of : {T E : Type 0} (P : E → Type 0) (r : Result T E) (e : E) → IsErrAnd r (λ y. y ≡ e) → P e → IfErr r P
if-err-of P (Ok x) e is holds = tt
if-err-of P (Err y) e is holds = subst P (sym is) holds

-- what follows of the error of a result
pub if-err-weaker : {T E : Type 0} (P Q : E → Type 0) (r : Result T E) → ((e : E) → P e → Q e) → IfErr r P → IfErr r Q
if-err-weaker P Q (Ok x) weaker holds = tt
if-err-weaker P Q (Err e) weaker holds = weaker e holds

-- what follows of its value
pub on-ok-weaker : {T E P Q : Type 0} (r : Result T E) → (P → Q) → OnOk r P → OnOk r Q
on-ok-weaker (Ok x) weaker holds = weaker holds
on-ok-weaker (Err e) weaker holds = tt

-- what holds anyhow
pub on-err-given : {T E P : Type 0} (r : Result T E) → P → OnErr r P
on-err-given (Ok x) holds = tt
on-err-given (Err e) holds = holds

pub on-ok-given : {T E P : Type 0} (r : Result T E) → P → OnOk r P
on-ok-given (Ok x) holds = holds
on-ok-given (Err e) holds = tt
