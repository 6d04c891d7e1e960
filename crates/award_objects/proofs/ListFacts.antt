-- Lists, one item after the other.
use Rattle.std.proofs.Common.{◌≡◌, ◌∙◌, ◌+◌, ◌<◌, ◌≤◌, ◌++◌, ◌∷◌, ℕ, Bool, true, false, zero, suc, List, [], ap, ap₂, append-nil, arith}
use Rattle.std.proofs.Common.{flat_map, get_or, length, map, min, refl, sym, take}
use Rattle.std.specs.Prelude.{filter, sum_by}
use Rattle.std.specs.List.{enumerate_from, zip}
use Rattle.std.proofs.lemmas.List.{map-append, take_all, take_more}
use Rattle.std.proofs.lemmas.List.Concat.{flat_map-append}
use Rattle.std.proofs.lemmas.List.Elements.{filter-append}
use Rattle.std.proofs.lemmas.List.FromFn.{get_or-enumerate_from, length-enumerate_from}
use Rattle.std.proofs.lemmas.List.Sums.{sum_by-append, sum_by-cons}
use Rattle.std.proofs.lemmas.Slice.Zip.{get_or-zip}

-- ---------- pairs ----------

zip_within : {X Y : Type 0} (xs : List X) (ys : List Y) (i : ℕ) → i < length xs → i < length ys → i < length (zip xs ys)
zip_within [] ys i l m = absurd (omega arith)
zip_within (x ∷ xs) [] i l m = absurd (omega arith)
zip_within (x ∷ xs) (y ∷ ys) zero l m = omega arith
zip_within (x ∷ xs) (y ∷ ys) (suc i) l m = let h = zip_within xs ys i (omega arith) (omega arith) in omega arith

zip_short : {X Y : Type 0} (xs : List X) (ys : List Y) (n : ℕ) → min (length ys) (length xs) ≤ n → length (zip xs ys) ≤ n
zip_short [] ys n l = omega arith
zip_short (x ∷ xs) [] n l = omega arith
zip_short (x ∷ xs) (y ∷ ys) zero l = absurd (omega arith)
zip_short (x ∷ xs) (y ∷ ys) (suc n) l = let h = zip_short xs ys n (omega arith) in omega arith

-- no pair is left after the shorter list
pub zip_end : {X Y : Type 0} (xs : List X) (ys : List Y) (n : ℕ) → min (length ys) (length xs) ≤ n → take n (zip xs ys) ≡ zip xs ys
zip_end xs ys n l = take_all n (zip xs ys) (zip_short xs ys n l)

pub zip_all : {X Y : Type 0} (xs : List X) (ys : List Y) (n : ℕ) → length xs ≤ n → take n (zip xs ys) ≡ zip xs ys
zip_all xs ys n l = zip_end xs ys n (omega arith)

pub zip_length : {X Y : Type 0} (xs : List X) (ys : List Y) → length xs ≡ length ys → length (zip xs ys) ≡ length xs
zip_length [] [] e = refl
zip_length [] (y ∷ ys) e = absurd (omega arith)
zip_length (x ∷ xs) [] e = absurd (omega arith)
zip_length (x ∷ xs) (y ∷ ys) e = let h = zip_length xs ys (omega arith) in omega arith

-- the pair at a place
pub pair_at : {X Y : Type 0} (xs : List X) (ys : List Y) (i : ℕ) (d x : X) (e y : Y) → x ≡ get_or xs i d → y ≡ get_or ys i e → i < length xs → i < length ys
    → (x, y) ≡ get_or (zip xs ys) i (d, e)
pair_at xs ys i d x e y f h l m = ap₂ (λ u v. (u, v)) f h ∙ sym (get_or-zip xs ys i (d, e) l m)

-- and after those before it
pub pair_more : {X Y : Type 0} (xs : List X) (ys : List Y) (i : ℕ) (d x : X) (e y : Y) → x ≡ get_or xs i d → y ≡ get_or ys i e → i < length xs → i < length ys
    → take (i + 1) (zip xs ys) ≡ take i (zip xs ys) ++ (x, y) ∷ []
pair_more xs ys i d x e y f h l m = take_more (zip xs ys) i (d, e) (zip_within xs ys i l m)
    ∙ ap (λ it. take i (zip xs ys) ++ it ∷ []) (sym (pair_at xs ys i d x e y f h l m))

-- ---------- numbers ----------

-- items with their numbers, one further
pub numbered_more : {X : Type 0} (k : ℕ) (xs : List X) (i n : ℕ) (d x : X) → x ≡ get_or xs i d → i < length xs → n ≡ k + i
    → take (i + 1) (enumerate_from k xs) ≡ take i (enumerate_from k xs) ++ (n, x) ∷ []
numbered_more k xs i n d x e l place =
    let long = length-enumerate_from k xs in
    take_more (enumerate_from k xs) i (n, d) (omega arith)
    ∙ ap (λ it. take i (enumerate_from k xs) ++ it ∷ []) (get_or-enumerate_from k xs i (n, d) l)
    ∙ ap (λ y. take i (enumerate_from k xs) ++ (k + i, y) ∷ []) (sym e)
    ∙ ap (λ m. take i (enumerate_from k xs) ++ (m, x) ∷ []) (sym place)

pub numbered_all : {X : Type 0} (k : ℕ) (xs : List X) (n : ℕ) → length xs ≤ n → take n (enumerate_from k xs) ≡ enumerate_from k xs
numbered_all k xs n l = let long = length-enumerate_from k xs in take_all n (enumerate_from k xs) (omega arith)

-- pairs with their numbers, one further
pub numbered_pair : {X Y : Type 0} (k : ℕ) (xs : List X) (ys : List Y) (i n : ℕ) (d x : X) (e y : Y) → x ≡ get_or xs i d → y ≡ get_or ys i e
    → i < length xs → i < length ys → n ≡ k + i
    → take (i + 1) (enumerate_from k (zip xs ys)) ≡ take i (enumerate_from k (zip xs ys)) ++ (n, (x, y)) ∷ []
numbered_pair k xs ys i n d x e y f h l m place =
    numbered_more k (zip xs ys) i n (d, e) (x, y) (pair_at xs ys i d x e y f h l m) (zip_within xs ys i l m) place

pub numbered_pairs : {X Y : Type 0} (k : ℕ) (xs : List X) (ys : List Y) (n : ℕ) → length xs ≤ n
    → take n (enumerate_from k (zip xs ys)) ≡ enumerate_from k (zip xs ys)
numbered_pairs k xs ys n l = numbered_all k (zip xs ys) n (zip_short xs ys n (omega arith))

-- ---------- what comes of one item more ----------

pub map_more : {X Y : Type 0} (f : X → Y) (xs ys : List X) (x : X) → ys ≡ xs ++ x ∷ [] → map f ys ≡ map f xs ++ f x ∷ []
map_more f xs ys x e = ap (map f) e ∙ map-append f xs (x ∷ [])

pub bytes_more : {X : Type 0} (f : X → List ℕ) (xs ys : List X) (x : X) → ys ≡ xs ++ x ∷ [] → flat_map f xs ++ f x ≡ flat_map f ys
bytes_more f xs ys x e = sym (ap (flat_map f) e ∙ flat_map-append f xs (x ∷ []) ∙ ap (λ (bytes : List ℕ). flat_map f xs ++ bytes) (append-nil (f x)))

pub sum_more : {X : Type 0} (f : X → ℕ) (xs ys : List X) (x : X) → ys ≡ xs ++ x ∷ [] → sum_by f xs + f x ≡ sum_by f ys
sum_more f xs ys x e =
    let all = ap (sum_by f) e ∙ sum_by-append f xs (x ∷ []) in
    let last = sum_by-cons f x [] in
    omega arith

pub filter_more : {X : Type 0} (p : X → Bool) (xs ys : List X) (x : X) → p x ≡ true → ys ≡ xs ++ x ∷ [] → filter p ys ≡ filter p xs ++ x ∷ []
filter_more p xs ys x t e = ap (filter p) e ∙ filter-append p xs (x ∷ []) ∙ rw t refl

pub filter_same : {X : Type 0} (p : X → Bool) (xs ys : List X) (x : X) → p x ≡ false → ys ≡ xs ++ x ∷ [] → filter p ys ≡ filter p xs
filter_same p xs ys x t e = ap (filter p) e ∙ filter-append p xs (x ∷ []) ∙ rw t (append-nil (filter p xs))
