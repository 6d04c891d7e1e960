-- Laws of the forms of a bidder, by their numbers.
use Rattle.std.proofs.Common.{◌≡◌, ◌∙◌, ◌+◌, ◌<◌, ◌++◌, ◌∷◌, ◌==◌, ℕ, Bool, true, false, cond, List, [], Option, None, Some}
use Rattle.std.proofs.Common.{get_or, length, length-take, map, take, arith, refl, sym, ap}
use Rattle.std.specs.Prelude.{filter, flat_map}
use Rattle.std.specs.List.{enumerate_from, last_or}
use Rattle.std.proofs.lemmas.List.{map-append, take_more}
use Rattle.std.proofs.lemmas.List.Elements.{filter-append}
use Rattle.presolve.specs.Lines.{forms_by}

enumerate-push : (n : ℕ) (xs : List ℕ) (x : ℕ) → enumerate_from n (xs ++ x ∷ []) ≡ enumerate_from n xs ++ (n + length xs, x) ∷ []
enumerate-push n [] x = ap (λ (k : ℕ). (k, x) ∷ []) (let e : n ≡ n + 0 = omega arith in e)
enumerate-push n (y ∷ xs) x = ap (λ (rest : List (ℕ × ℕ)). (n, y) ∷ rest)
    (enumerate-push (n + 1) xs x ∙ ap (λ (k : ℕ). enumerate_from (n + 1) xs ++ (k, x) ∷ [])
    (let e : n + 1 + length xs ≡ n + length (y ∷ xs) = omega arith in e))

abbrev of_bidder : ℕ → ℕ × ℕ → Bool
of_bidder b numbered = numbered.1 == b

abbrev numbers_of : ℕ → List (ℕ × ℕ) → List ℕ
numbers_of b forms = map (λ (numbered : ℕ × ℕ). numbered.0) (filter (of_bidder b) forms)

-- the number of one form more, where it is the bidder's
one-more : (b n x : ℕ) → numbers_of b ((n, x) ∷ []) ≡ cond (x == b) (n ∷ []) []
one-more b n x = by (x == b)
  where
    by : (own : Bool) → map (λ (numbered : ℕ × ℕ). numbered.0) (cond own ((n, x) ∷ []) []) ≡ cond own (n ∷ []) []
    by true = refl
    by false = refl

forms-next : (b i : ℕ) (bidders : List ℕ) → i < length bidders
    → forms_by (take (i + 1) bidders) b ≡ forms_by (take i bidders) b ++ cond (get_or bidders i 0 == b) ((i + 1) ∷ []) []
forms-next b i bidders within =
    let x = get_or bidders i 0 in
    let front = take i bidders in
    let many : 1 + length front ≡ i + 1 = (let long = length-take i bidders in omega arith) in
    ap (λ (xs : List ℕ). forms_by xs b) (take_more bidders i 0 within)
    ∙ ap (numbers_of b) (enumerate-push 1 front x ∙ ap (λ (n : ℕ). enumerate_from 1 front ++ (n, x) ∷ []) many)
    ∙ ap (map (λ (numbered : ℕ × ℕ). numbered.0)) (filter-append (of_bidder b) (enumerate_from 1 front) ((i + 1, x) ∷ []))
    ∙ map-append (λ (numbered : ℕ × ℕ). numbered.0) (filter (of_bidder b) (enumerate_from 1 front)) (filter (of_bidder b) ((i + 1, x) ∷ []))
    ∙ ap (λ (ns : List ℕ). forms_by front b ++ ns) (one-more b (i + 1) x)

last-push : (o : Option ℕ) (xs : List ℕ) (x : ℕ) → last_or o (xs ++ x ∷ []) ≡ Some x
last-push o [] x = refl
last-push o (y ∷ xs) x = last-push (Some y) xs x

last-none : (o : Option ℕ) (xs : List ℕ) → last_or o (xs ++ []) ≡ last_or o xs
last-none o [] = refl
last-none o (y ∷ xs) = last-none (Some y) xs

-- the last form so far, where the next one is the bidder's, and where it isn't
pub last-own : (b i : ℕ) (bidders : List ℕ) → i < length bidders → (get_or bidders i 0 == b) ≡ true
    → last_or None (forms_by (take (i + 1) bidders) b) ≡ Some (i + 1)
last-own b i bidders within own =
    ap (last_or None) (forms-next b i bidders within ∙ ap (λ (yes : Bool). forms_by (take i bidders) b ++ cond yes ((i + 1) ∷ []) []) own)
    ∙ last-push None (forms_by (take i bidders) b) (i + 1)

pub last-other : (b i : ℕ) (bidders : List ℕ) → i < length bidders → (get_or bidders i 0 == b) ≡ false
    → last_or None (forms_by (take (i + 1) bidders) b) ≡ last_or None (forms_by (take i bidders) b)
last-other b i bidders within other =
    ap (last_or None) (forms-next b i bidders within ∙ ap (λ (yes : Bool). forms_by (take i bidders) b ++ cond yes ((i + 1) ∷ []) []) other)
    ∙ last-none None (forms_by (take i bidders) b)

-- lines of a bidder's forms, as a walk over all forms finds them
pub own-lines : (line : ℕ → List ℕ) (b : ℕ) (forms : List (ℕ × ℕ))
    → flat_map (λ (numbered : ℕ × ℕ). cond (numbered.1 == b) (line numbered.0) []) forms ≡ flat_map line (numbers_of b forms)
own-lines line b [] = refl
own-lines line b (form ∷ forms) = by (form.1 == b) ∙ ap (λ (rest : List ℕ). flat_map line (cond (form.1 == b) (form.0 ∷ []) []) ++ rest)
    (own-lines line b forms) ∙ sym (joined (form.1 == b))
  where
    rest : List ℕ
    rest = flat_map (λ (numbered : ℕ × ℕ). cond (numbered.1 == b) (line numbered.0) []) forms

    by : (own : Bool) → cond own (line form.0) [] ++ rest ≡ flat_map line (cond own (form.0 ∷ []) []) ++ rest
    by true = ap (λ (xs : List ℕ). xs ++ rest) (sym (none (line form.0)))
      where
        none : (xs : List ℕ) → xs ++ [] ≡ xs
        none [] = refl
        none (x ∷ xs) = ap (λ (ys : List ℕ). x ∷ ys) (none xs)
    by false = refl

    joined : (own : Bool) → flat_map line (map (λ (numbered : ℕ × ℕ). numbered.0)
        (cond own (form ∷ filter (of_bidder b) forms) (filter (of_bidder b) forms))) ≡ flat_map line (cond own (form.0 ∷ []) []) ++ flat_map
        line (numbers_of b forms)
    joined true = ap (λ (xs : List ℕ). xs ++ flat_map line (numbers_of b forms)) (sym (none (line form.0)))
      where
        none : (xs : List ℕ) → xs ++ [] ≡ xs
        none [] = refl
        none (x ∷ xs) = ap (λ (ys : List ℕ). x ∷ ys) (none xs)
    joined false = refl
