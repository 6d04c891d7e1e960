-- A name that zeros fill up.
use Rattle.std.proofs.Common.{◌≡◌, ◌-◌, ◌++◌, ◌∙◌, ℕ, List, ap, ap₂, drop, le_refl, length, replicate, sym, take, take_all}
use Rattle.std.proofs.lemmas.List.{drop-replicate, take-append-le}

pub filled : (text written : List ℕ) → written ≡ text
    → (length (take (length text) (written ++ drop (length text) (replicate 16 0))) ≡ length text)
    × (written ++ drop (length text) (replicate 16 0) ≡ take (length text) (written ++ drop (length text) (replicate 16 0)) ++ replicate
    (16 - length text) 0)
filled text written is =
    let rest = drop (length text) (replicate 16 0) in
    let front : take (length text) (text ++ rest) ≡ text =
    take-append-le (length text) text rest (le_refl (length text)) ∙ take_all (length text) text (le_refl (length text)) in
    let here : take (length text) (written ++ rest) ≡ text = ap (λ (w : List ℕ). take (length text) (w ++ rest)) is ∙ front in
    (ap (λ (xs : List ℕ). length xs) here, ap₂ (λ (xs ys : List ℕ). xs ++ ys) (is ∙ sym here) (drop-replicate (length text) 16 0))
