-- What reads consume, one after the other.
use Rattle.std.proofs.Common.{◌++◌, ◌∙◌, ℕ, List, Option, Some, None, ap, sym, append_assoc}
use Rattle.std.specs.Io.KnownBytes.{Consumes}

pub Consumes-then : (a b c : Option (List ℕ)) (xs ys : List ℕ) → Consumes a b xs → Consumes b c ys → Consumes a c (xs ++ ys)
Consumes-then None b c xs ys p q = tt
Consumes-then (Some us) None c xs ys p q = absurd p
Consumes-then (Some us) (Some vs) None xs ys p q = absurd q
Consumes-then (Some us) (Some vs) (Some ws) xs ys p q = p ∙ ap (λ (w : List ℕ). xs ++ w) q ∙ sym (append_assoc xs ys ws)
