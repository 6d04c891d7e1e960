-- The line that ends a text.
use Rattle.std.proofs.Common.{◌≡◌, ℕ, List, [], ◌∷◌, ◌++◌, refl, sym, ap, ◌∙◌}

-- ---- the lines so far

pub moved : (all before lines rest : List (List ℕ)) (line : List ℕ) → all ≡ before ++ lines → lines ≡ line ∷ rest → all ≡ (before ++ line ∷ []) ++ rest
moved all before lines rest line h e = h ∙ ap (λ ls. before ++ ls) e ∙ sym (shift before)
  where
    shift : (xs : List (List ℕ)) → (xs ++ line ∷ []) ++ rest ≡ xs ++ line ∷ rest
    shift [] = refl
    shift (x ∷ xs) = ap (λ ls. x ∷ ls) (shift xs)
