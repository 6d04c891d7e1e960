-- What a sink in memory has once a whole text went there.
use Rattle.std.proofs.Common.{◌≡◌, ℕ, List, [], Option, Some, ap, subst}
use Rattle.std.specs.Io.KnownBytes.{Appends}
use Rattle.byte_sinks.specs.Sinks.{GoesWhole, Outlet, unused}

-- a sink that was new has the text, and nothing else
pub bytes-are : (before after : Outlet) (text bytes : List ℕ) → before ≡ unused (Some []) → GoesWhole before after text → after.taken ≡ Some bytes
    → bytes ≡ text
bytes-are before after text bytes new whole is =
    let from_none = subst (λ (taken : Option (List ℕ)). Appends taken after.taken text) (ap (λ (sink : Outlet). sink.taken) new) whole.taken in
    subst (λ (taken : Option (List ℕ)). Appends (Some []) taken text) is from_none
