-- Steps of known bytes.
use Rattle.std.proofs.Common.{◌≡◌, ℕ, zero, suc, ◌+◌, ◌-◌, ◌<◌, ◌≤◌, List, [], ◌∷◌, ◌++◌, length, take, drop, refl, sym, ap}
use Rattle.std.proofs.Common.{◌∙◌, append_assoc, length-append, arith, Option, Some, None, Result, Ok, Err}
use Rattle.std.specs.Prelude.{OnErr, ◌^◌, flat_map, get_or, min, slice_get}
use Rattle.std.specs.Io.KnownBytes.{Appends, Keeps, append_known}
use Rattle.std.proofs.lemmas.List.{append-nil, take-append-drop, take_more, take_rest, length-drop, length-take, take-take, drop-take, take_at}
use Rattle.std.proofs.lemmas.Grind.{flat_map-append}
use Rattle.byte_sinks.specs.Sinks.{IsFront, Counts, SentFront}

pub Appends-nothing : (a : Option (List ℕ)) → Appends a a []
Appends-nothing None = tt
Appends-nothing (Some xs) = sym (append-nil xs)

pub Appends-then : (a b c : Option (List ℕ)) (xs ys zs : List ℕ) → xs ++ ys ≡ zs → Appends a b xs → Appends b c ys → Appends a c zs
Appends-then None b c xs ys zs e p q = tt
Appends-then (Some us) None c xs ys zs e p q = absurd p
Appends-then (Some us) (Some vs) None xs ys zs e p q = absurd q
Appends-then (Some us) (Some vs) (Some ws) xs ys zs e p q = rw (q, p, ← e) (append_assoc us xs ys)

pub Appends-keeps : (a b c : Option (List ℕ)) (xs : List ℕ) → Appends a b xs → Keeps b c → Appends a c xs
Appends-keeps None b c xs p q = tt
Appends-keeps (Some us) None c xs p q = absurd p
Appends-keeps (Some us) (Some vs) None xs p q = absurd q
Appends-keeps (Some us) (Some vs) (Some ws) xs p q = q ∙ p

-- a front of what waits went out
pub IsFront-from : (a b : Option (List ℕ)) (front rest xs : List ℕ) → 0 < length rest → xs ≡ front ++ rest → Appends a b front → IsFront b (append_known a xs)
IsFront-from None None front rest xs some e p = tt
IsFront-from None (Some vs) front rest xs some e p = tt
IsFront-from (Some us) None front rest xs some e p = absurd p
IsFront-from (Some us) (Some vs) front rest xs some e p = (rest, some, rw (p, e) (sym (append_assoc us front rest)))

pub OnErr-any : {T E : Type 0} (r : Result T E) (P : Type 0) → P → OnErr r P
OnErr-any (Ok x) P p = tt
OnErr-any (Err e) P p = p

take-plus : (i n : ℕ) (xs : List ℕ) → take i xs ++ take n (drop i xs) ≡ take (i + n) xs
take-plus i n xs =
    let whole = take-append-drop i (take (i + n) xs) in
    let front : take i (take (i + n) xs) ≡ take i xs = take-take i (i + n) xs (omega arith) in
    let back = drop-take i n xs in
    rw (← front, ← back) whole

-- a piece of what is left goes on with what went out
module _ (i n m : ℕ) (xs piece : List ℕ) (e : piece ≡ take (min (length (take (length xs - i) (drop i xs))) m)
    (take (length xs - i) (drop i xs))) (h : n ≤ length piece) where
  abbrev rest : List ℕ
  rest = drop i xs

  is_front : piece ≡ take (min (length rest) m) rest
  is_front = e ∙ ap (λ (ys : List ℕ). take (min (length ys) m) ys) (take_rest xs i)

  few : n ≤ min (length rest) m
  few = omega (arith, ap length is_front, length-take (min (length rest) m) rest)

  pub piece-within : i ≤ length xs → i + n ≤ length xs
  piece-within l = omega (arith, few, length-drop i xs)

  pub piece-step : take i xs ++ take n piece ≡ take (i + n) xs
  piece-step = ap (λ (ys : List ℕ). take i xs ++ take n ys) is_front
      ∙ ap (λ (ys : List ℕ). take i xs ++ ys) (take-take n (min (length rest) m) rest few) ∙ take-plus i n xs

-- a list that isn't empty stays so
longer : (xs ys : List ℕ) → 0 < length xs → 0 < length (xs ++ ys)
longer xs ys h = omega (arith, length-append xs ys)

-- a front of what is held and of a piece after it is a front of what will be held
pub IsFront-piece : (t h k : Option (List ℕ)) (front piece rest xs : List ℕ) → xs ≡ front ++ (piece ++ rest) → Appends h k front
    → IsFront t (append_known k piece) → IsFront t (append_known h xs)
IsFront-piece None None k front piece rest xs e p q = tt
IsFront-piece (Some ts) None k front piece rest xs e p q = tt
IsFront-piece t (Some hs) None front piece rest xs e p q = absurd p
IsFront-piece None (Some hs) (Some ks) front piece rest xs e p q = absurd q
IsFront-piece (Some ts) (Some hs) (Some ks) front piece rest xs e p q =
    let known : (hs ++ front) ++ piece ≡ ts ++ q.0 = rw p at q.2 in (
      q.0 ++ rest,
      longer q.0 rest q.1,
      rw (
        e,
        ← append_assoc front piece rest,
        ← append_assoc hs (front ++
            piece) rest,
        ← append_assoc hs front piece,
        known,
      ) (append_assoc ts q.0 rest),
    )

pub Counts-then : (a b c : Option (List ℕ)) (x y z : ℕ) → Counts a b x y → Counts b c y z → Counts a c x z
Counts-then None b c x y z p q = tt
Counts-then (Some us) None c x y z p q = absurd p
Counts-then (Some us) (Some vs) None x y z p q = absurd q
Counts-then (Some us) (Some vs) (Some ws) x y z p q = (
  omega (arith, p.0, q.0),
  λ small.
      let first = p.1 small in
      let second = q.1 (omega (arith, first)) in
      omega (arith, p.0, q.0, first, second),
)

front-past : (ts xs : List ℕ) (k : ℕ) → length ts ≤ k → take k (ts ++ xs) ≡ ts ++ take (k - length ts) xs
front-past [] xs k h = ap (λ (n : ℕ). take n xs) (omega arith)
front-past (t ∷ ts) xs zero h = absurd (omega arith)
front-past (t ∷ ts) xs (suc k) h = ap (λ (w : List ℕ). t ∷ w) (front-past ts xs k (omega arith) ∙ ap (λ (n : ℕ). ts ++ take n xs) (omega arith))

-- the count of what went out
pub SentFront-from : (t u : Option (List ℕ)) (xs : List ℕ) (sent : ℕ) → IsFront u (append_known t xs) → Counts t u 0 sent → SentFront t u xs sent
SentFront-from None u xs sent p q = tt
SentFront-from (Some ts) None xs sent p q = absurd q
SentFront-from (Some ts) (Some us) xs sent p q =
    let n = length us - length ts in
    let whole = ap length p.2 in
    let some = p.1 in
    let sizes : length ts + length xs ≡ length us + length p.0 = sym (length-append ts xs) ∙ whole ∙ length-append us p.0 in
    let front : us ≡ take (length us) (ts ++ xs) = rw p.2 (sym (take_at us p.0 (length us) refl)) in
    (n, omega arith, front ∙ front-past ts xs (length us) q.0, q.1 (omega arith) ∙ ap (λ (n : ℕ). min n (2 ^ 64 - 1)) (omega arith))

-- nothing after what was taken
pub IsFront-empty : (u t : Option (List ℕ)) (xs : List ℕ) → IsFront u (append_known (append_known t []) xs) → IsFront u (append_known t xs)
IsFront-empty u None xs p = p
IsFront-empty None (Some ts) xs p = p
IsFront-empty (Some us) (Some ts) xs p = rw append-nil at p

pub IsFront-longer : (f h : Option (List ℕ)) (xs ys : List ℕ) → IsFront f (append_known h xs) → IsFront f (append_known h (xs ++ ys))
IsFront-longer None None xs ys q = tt
IsFront-longer (Some fs) None xs ys q = tt
IsFront-longer None (Some hs) xs ys q = absurd q
IsFront-longer (Some fs) (Some hs) xs ys q = (q.0 ++ ys, longer q.0 ys q.1, rw (← append_assoc hs xs ys, q.2) (append_assoc fs q.0 ys))

-- the item of a loop after those before it
pub flat_map-next_or : {X : Type 0} (f : X → List ℕ) (xs : List X) (i : ℕ) (d : X) → i < length xs
    → flat_map f (take i xs) ++ f (get_or xs i d) ≡ flat_map f (take (i + 1) xs)
flat_map-next_or f xs i d lt =
    rw (take_more xs i d lt, flat_map-append f (take i xs) (get_or xs i d ∷ []), append-nil (f (get_or xs i d))) refl

pub flat_map-next_item : {X : Type 0} (f : X → List ℕ) (xs : List X) (i : ℕ) (x : X) → x ≡ get_or xs i x → i < length xs
    → flat_map f (take i xs) ++ f x ≡ flat_map f (take (i + 1) xs)
flat_map-next_item f xs i x e lt = ap (λ y. flat_map f (take i xs) ++ f y) e ∙ flat_map-next_or f xs i x lt

-- the item at a place after those before it
pub flat_map-next : {X : Type 0} (f : X → List ℕ) (xs : List X) (i : ℕ) (x : X) → slice_get xs i ≡ Some x
    → flat_map f (take i xs) ++ f x ≡ flat_map f (take (suc i) xs)
flat_map-next f [] i x e = cc
flat_map-next f (y ∷ xs) zero x e = let same : y ≡ x = cc in sym (ap (λ w. f w ++ []) same ∙ append-nil (f x))
flat_map-next f (y ∷ xs) (suc i) x e = append_assoc (f y) (flat_map f (take i xs)) (f x) ∙ ap (λ (w : List ℕ). f y ++ w) (flat_map-next f xs i x e)
