-- What an extension that succeeds leaves.
use Rattle.std.specs.Prelude.{◌≡◌, Result, Ok, Err, OnOk, if◌then◌else◌}
use Rattle.std.specs.Result.{is_ok}

pub extended : {T E A : Type 0} (r : Result T E) (new longer old : A) → new ≡ (if is_ok r then longer else old) → OnOk r (new ≡ longer)
extended (Ok x) new longer old is = is
extended (Err e) new longer old is = tt
