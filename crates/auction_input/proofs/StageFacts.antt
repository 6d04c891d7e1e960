-- What stages give together.
use Rattle.std.proofs.Common.{◌≡◌, ◌+◌, ◌++◌, ◌∷◌, ◌∙◌, [], ℕ, List, Result, Ok, Err, ap, append_assoc, arith, length, refl, sym, inl, inr, append-nil}
use Rattle.auction_input.specs.Refused.{Refuses}
use Rattle.auction_input.specs.declared.refusal.Refusal.{Refusal}
use Rattle.auction_terms.specs.Stages.{and_then, each_in_turn}

-- a stage that gives a value, and the stages after it
pub next : {A B E : Type 0} (r : Result A E) (x : A) (k : A → Result B E) (y : Result B E) → r ≡ Ok x → k x ≡ y → and_then r k ≡ y
next r x k y tells goes = ap (λ q. and_then q k) tells ∙ goes

-- a stage that refuses ends the run
pub stop : {A B : Type 0} (r : Result A Refusal) (k : A → Result B Refusal) (e : Refusal) → Refuses r e → Refuses (and_then r k) e
stop r k e (inl parsed) = inl (ap (λ q. and_then q k) parsed)
stop r k e (inr memory) = inr memory

-- a stage after one that gives a value
pub after-ok : {A B : Type 0} (r : Result A Refusal) (x : A) (k : A → Result B Refusal) (e : Refusal) → r ≡ Ok x → Refuses (k x) e → Refuses (and_then r k) e
after-ok r x k e tells (inl parsed) = inl (ap (λ q. and_then q k) tells ∙ parsed)
after-ok r x k e tells (inr memory) = inr memory

-- a refusal of what is the same
pub refuses-as : {A : Type 0} (r s : Result A Refusal) (e : Refusal) → s ≡ r → Refuses r e → Refuses s e
refuses-as r s e same (inl parsed) = inl (same ∙ parsed)
refuses-as r s e same (inr memory) = inr memory

-- ---- items in turn, of which some have given their values and the rest is left

module _ {X A E : Type 0} (parse : ℕ → X → Result A E) where
  abbrev pub IsLeft : ℕ → List X → List A → List X → Type 0
  IsLeft n items parsed rest = each_in_turn parse 1 items ≡ and_then (each_in_turn parse n rest) (λ more. Ok (parsed ++ more))

  onto-none : (r : Result (List A) E) → r ≡ and_then r (λ more. Ok ([] ++ more))
  onto-none (Ok parsed) = refl
  onto-none (Err e) = refl

  pub left-first : (items : List X) → IsLeft 1 items [] items
  left-first items = onto-none (each_in_turn parse 1 items)

  onto-all : (parsed ys : List A) (r : Result (List A) E)
      → and_then (and_then r (λ zs. Ok (ys ++ zs))) (λ more. Ok (parsed ++ more)) ≡ and_then r (λ more. Ok ((parsed ++ ys) ++ more))
  onto-all parsed ys (Ok zs) = ap (λ (xs : List A). Ok xs) (sym (append_assoc parsed ys zs))
  onto-all parsed ys (Err e) = refl

  -- items of which the first give their values, and what the rest gives
  apart : (parsed : Result A E) (front back : Result (List A) E)
      → and_then parsed (λ y. and_then (and_then front (λ ys. and_then back (λ zs. Ok (ys ++ zs)))) (λ more. Ok (y ∷ more)))
      ≡ and_then (and_then parsed (λ y. and_then front (λ ys. Ok (y ∷ ys)))) (λ ys. and_then back (λ zs. Ok (ys ++ zs)))
  apart (Ok y) (Ok ys) (Ok zs) = refl
  apart (Ok y) (Ok ys) (Err e) = refl
  apart (Ok y) (Err e) back = refl
  apart (Err e) front back = refl

  each-apart : (n m : ℕ) (front back : List X) → n + length front ≡ m
      → each_in_turn parse n (front ++ back) ≡ and_then (each_in_turn parse n front) (λ ys. and_then (each_in_turn parse m back) (λ zs. Ok (ys ++ zs)))
  each-apart n m [] back count =
      let same : n ≡ m = omega arith in
      ap (λ k. each_in_turn parse k back) same ∙ onto-none (each_in_turn parse m back)
  each-apart n m (x ∷ front) back count =
      ap (λ (r : Result (List A) E). and_then (parse n x) (λ y. and_then r (λ more. Ok (y ∷ more)))) (each-apart (n + 1) m front back (omega arith))
      ∙ apart (parse n x) (each_in_turn parse (n + 1) front) (each_in_turn parse m back)

  -- the next items give their values
  pub left-stage : (n m : ℕ) (items : List X) (parsed : List A) (stage rest : List X) (ys : List A) → n + length stage ≡ m
      → IsLeft n items parsed (stage ++ rest) → each_in_turn parse n stage ≡ Ok ys
      → IsLeft m items (parsed ++ ys) rest
  left-stage n m items parsed stage rest ys count left tells =
      left ∙ ap (λ (r : Result (List A) E). and_then r (λ more. Ok (parsed ++ more))) (each-apart n m stage rest count)
      ∙ ap (λ (r : Result (List A) E). and_then (and_then r (λ front. and_then (each_in_turn parse m rest) (λ zs. Ok (front ++ zs))))
      (λ more. Ok (parsed ++ more))) tells
      ∙ onto-all parsed ys (each_in_turn parse m rest)

  pub left-stage-fault : (n : ℕ) (items : List X) (parsed : List A) (stage rest : List X) (e : E) → IsLeft n items parsed (stage ++ rest)
      → each_in_turn parse n stage ≡ Err e → each_in_turn parse 1 items ≡ Err e
  left-stage-fault n items parsed stage rest e left tells =
      left ∙ ap (λ (r : Result (List A) E). and_then r (λ more. Ok (parsed ++ more))) (each-apart n (n + length stage) stage rest refl)
      ∙ ap (λ (r : Result (List A) E). and_then (and_then r (λ front. and_then (each_in_turn parse (n + length stage) rest)
      (λ zs. Ok (front ++ zs)))) (λ more. Ok (parsed ++ more))) tells

  -- an item is a stage of one
  pub left-more : (n : ℕ) (items : List X) (parsed : List A) (x : X) (rest : List X) (y : A) → IsLeft n items parsed (x ∷ rest)
      → parse n x ≡ Ok y → IsLeft (n + 1) items (parsed ++ y ∷ []) rest
  left-more n items parsed x rest y left tells = left-stage n (n + 1) items parsed (x ∷ []) rest (y ∷ []) refl left (rw tells refl)

  pub left-fault : (n : ℕ) (items : List X) (parsed : List A) (x : X) (rest : List X) (e : E) → IsLeft n items parsed (x ∷ rest)
      → parse n x ≡ Err e → each_in_turn parse 1 items ≡ Err e
  left-fault n items parsed x rest e left tells = left-stage-fault n items parsed (x ∷ []) rest e left (rw tells refl)

  -- as many values are parsed as there are items
  one-more : (parsed : Result A E) (r : Result (List A) E) (ys : List A) (n : ℕ) → ((zs : List A) → r ≡ Ok zs → length zs ≡ n)
      → and_then parsed (λ y. and_then r (λ more. Ok (y ∷ more))) ≡ Ok ys → length ys ≡ n + 1
  one-more (Ok y) (Ok zs) [] n as_many is = cc
  one-more (Ok y) (Ok zs) (x ∷ ys) n as_many is =
      let same : ys ≡ zs = cc in
      let count = as_many zs refl in
      let size = ap (λ (xs : List A). length xs) same in
      omega arith
  one-more (Ok y) (Err e) ys n as_many is = cc
  one-more (Err e) r ys n as_many is = cc

  pub each-count : (n : ℕ) (items : List X) (ys : List A) → each_in_turn parse n items ≡ Ok ys → length ys ≡ length items
  each-count n [] [] is = refl
  each-count n [] (y ∷ ys) is = cc
  each-count n (x ∷ items) ys is =
      let size = one-more (parse n x) (each_in_turn parse (n + 1) items) ys (length items) (λ zs parsed. each-count (n + 1) items zs parsed) is in
      omega arith

  pub left-none : (n : ℕ) (items : List X) (parsed : List A) → IsLeft n items parsed [] → each_in_turn parse 1 items ≡ Ok parsed
  left-none n items parsed left = left ∙ ap (λ (xs : List A). Ok xs) (append-nil parsed)

-- a stage of items refuses
pub left-stage-refused : {X A : Type 0} (parse : ℕ → X → Result A Refusal) (n : ℕ) (items : List X) (parsed : List A) (stage rest : List X)
    (r : Refusal) → IsLeft parse n items parsed (stage ++ rest)
    → Refuses (each_in_turn parse n stage) r → Refuses (each_in_turn parse 1 items) r
left-stage-refused parse n items parsed stage rest r left (inl is) = inl (left-stage-fault parse n items parsed stage rest _ left is)
left-stage-refused parse n items parsed stage rest r left (inr memory) = inr memory

-- the next item refuses
pub left-refused : {X A : Type 0} (parse : ℕ → X → Result A Refusal) (n : ℕ) (items : List X) (parsed : List A) (x : X) (rest : List X)
    (r : Refusal) → IsLeft parse n items parsed (x ∷ rest) → Refuses (parse n x) r
    → Refuses (each_in_turn parse 1 items) r
left-refused parse n items parsed x rest r left refused = left-stage-refused parse n items parsed (x ∷ []) rest r left (stop _ _ r refused)
