-- Searching a list by name, and testing it item by item.
use Rattle.std.proofs.Common.{nat_lt, lt-ltb, ℤ, pos, ◌≡◌, ℕ, zero, suc, ◌+◌, ◌<◌, ◌≤◌, Bool, true, false, List, [], ◌∷◌}
use Rattle.std.proofs.Common.{Some, None, drop, get_or, length, map, slice_get, refl, sym, ap, ◌∙◌, arith}
use Rattle.std.specs.Prelude.{bytes_eq, find, position}
use Rattle.std.specs.Option.{option_map, option_map_or}
use Rattle.std.specs.List.{list_all, position_or_len, IsDistinct}
use Rattle.std.proofs.lemmas.Bool.{false_from_ne_true, cond-true}
use Rattle.std.proofs.lemmas.List.{at_drop_all, at_drop_more}
use Rattle.std.proofs.lemmas.List.Folds.{find_at}
use Rattle.std.proofs.lemmas.Option.{get_or_from_slice_get, slice_get-map, slice_get_past, slice_get_read, slice_get_within}
use Rattle.std.proofs.lemmas.Slice.Eq.{bytes_eq-Decides}

-- an item of a list, in the list of what each shows
pub shown_at : {X Y : Type 0} (shown : X → Y) (xs : List X) (i : ℕ) (x : X) → i < length xs → x ≡ get_or xs i x
    → slice_get (map shown xs) i ≡ Some (shown x)
shown_at shown xs i x l is = slice_get-map shown xs i ∙ ap (option_map shown) (slice_get_read xs (length xs) i x refl l is)

module _ {X : Type 0} (name_of : X → List ℕ) (name : List ℕ) where
  abbrev pub test : X → Bool
  test x = bytes_eq name (name_of x)

  abbrev pub left : List X → ℕ
  left xs = position_or_len test xs

  -- an item that isn't named so is passed over
  pub pass : (xs : List X) (i : ℕ) (n : List ℕ) → option_map name_of (slice_get xs i) ≡ Some n → bytes_eq name n ≡ false
      → left (drop i xs) ≡ suc (left (drop (suc i) xs))
  pass [] i n e f = cc
  pass (x ∷ xs) zero n e f = let same : name_of x ≡ n = cc in let no : bytes_eq name (name_of x) ≡ false = ap (bytes_eq name) same ∙ f in rw no (omega arith)
  pass (x ∷ xs) (suc i) n e f = pass xs i n e f

  pub hit : (xs : List X) (i : ℕ) (n : List ℕ) → option_map name_of (slice_get xs i) ≡ Some n → bytes_eq name n ≡ true → left (drop i xs) ≡ 0
  hit [] i n e f = cc
  hit (x ∷ xs) zero n e f = let same : name_of x ≡ n = cc in let yes_here : bytes_eq name (name_of x) ≡ true = ap (bytes_eq name) same ∙ f in rw yes_here refl
  hit (x ∷ xs) (suc i) n e f = hit xs i n e f

  pub step : (xs : List X) (i : ℕ) (n : List ℕ) → option_map name_of (slice_get xs i) ≡ Some n → bytes_eq name n ≡ false
      → left xs ≡ i + left (drop i xs) → left xs ≡ i + 1 + left (drop (i + 1) xs)
  step xs i n e f h = let p = pass xs i n e f in let after : suc i ≡ i + 1 = omega arith in let same = ap (λ (k : ℕ). left (drop k xs)) after in omega arith

  pub found_here : (xs : List X) (i : ℕ) (n : List ℕ) → option_map name_of (slice_get xs i) ≡ Some n → bytes_eq name n ≡ true
      → left xs ≡ i + left (drop i xs) → i ≡ left xs
  found_here xs i n e f h = let p = hit xs i n e f in omega arith

  pub found_none : (xs : List X) (i n : ℕ) → length xs ≤ i → i ≤ n → n ≡ length xs → left xs ≡ i + left (drop i xs) → n ≡ left xs
  found_none xs i n l m e h = let p = at_drop_all left xs i l in omega arith

  -- if names differ, the one item of this name is the first
  earlier_differ : (y : X) (xs : List X) (i : ℕ) (n : List ℕ) → IsDistinct bytes_eq (map name_of (y ∷ xs))
      → option_map name_of (slice_get xs i) ≡ Some n → bytes_eq name n ≡ true → bytes_eq name (name_of y) ≡ false
  unfolding IsDistinct
  earlier_differ y [] i n d e f = cc
  earlier_differ y (x ∷ xs) zero n d e f =
      let same : name_of x ≡ n = cc in
      let is : name ≡ n = (bytes_eq-Decides name n).0 f in
      let apart : bytes_eq (name_of y) (name_of x) ≡ false = d.0.0 in
      false_from_ne_true (bytes_eq name (name_of y)) (λ t.
      let also : name ≡ name_of y = (bytes_eq-Decides name (name_of y)).0 t in
      let equal : name_of y ≡ name_of x = sym also ∙ is ∙ sym same in
      let clash = (bytes_eq-Decides (name_of y) (name_of x)).1 equal in
      cc)
  earlier_differ y (x ∷ xs) (suc i) n d e f = earlier_differ y xs i n (d.0.1, d.1.1) e f

  pub guessed : (xs : List X) (i : ℕ) (n : List ℕ) → IsDistinct bytes_eq (map name_of xs) → option_map name_of (slice_get xs i) ≡ Some n
      → bytes_eq name n ≡ true → i ≡ left xs
  unfolding IsDistinct
  guessed [] i n d e f = cc
  guessed (x ∷ xs) zero n d e f = let h = hit (x ∷ xs) zero n e f in sym h
  guessed (x ∷ xs) (suc i) n d e f =
      let no = earlier_differ x xs i n d e f in
      let rest = guessed xs i n d.1 e f in
      rw no (omega arith)

-- ---------- tests of all items ----------

module _ {X : Type 0} (test : X → Bool) where
  pub all_step : (xs : List X) (i : ℕ) (x : X) → slice_get xs i ≡ Some x → test x ≡ true → list_all test (drop i xs) ≡ list_all test (drop (i + 1) xs)
  all_step xs i x e t = at_drop_more (list_all test) xs i x (slice_get_within xs i x e) ∙ rw (get_or_from_slice_get xs i x x e, t) refl

  pub all_fails : (xs : List X) (i : ℕ) (x : X) → slice_get xs i ≡ Some x → test x ≡ false → list_all test (drop i xs) ≡ false
  all_fails xs i x e t = at_drop_more (list_all test) xs i x (slice_get_within xs i x e) ∙ rw (get_or_from_slice_get xs i x x e, t) refl

  pub all_end : (xs : List X) (i : ℕ) → length xs ≤ i → list_all test (drop i xs) ≡ true
  all_end xs i l = at_drop_all (list_all test) xs i l

-- ---------- what is found ----------

pub stand_found : {X : Type 0} (p : X → Bool) (f : X → Bool) (xs : List X) (n : ℕ) (x : X) → n ≡ position_or_len p xs
    → slice_get xs n ≡ Some x → f x ≡ option_map_or f (find p xs) false
stand_found p f xs n x e g = sym (ap (λ o. option_map_or f o false) (find_at p xs ∙ ap (slice_get xs) (sym e) ∙ g))

pub stand_none : {X : Type 0} (p : X → Bool) (f : X → Bool) (xs : List X) (n : ℕ) → n ≡ position_or_len p xs → length xs ≤ n
    → false ≡ option_map_or f (find p xs) false
stand_none p f xs n e l = sym (ap (λ o. option_map_or f o false) (find_at p xs ∙ ap (slice_get xs) (sym e) ∙ slice_get_past xs n l))

pub place_found : {X : Type 0} (p : X → Bool) (f : ℕ → ℤ) (xs : List X) (n : ℕ) → n ≡ position_or_len p xs → n < length xs
    → f n ≡ option_map_or f (position p xs) (pos 0)
place_found p f xs n e l =
    let within : nat_lt (position_or_len p xs) (length xs) ≡ true = lt-ltb (position_or_len p xs) (length xs) (omega arith) in
    sym (ap (λ o. option_map_or f o (pos 0)) (cond-true (nat_lt (position_or_len p xs) (length xs)) (Some (position_or_len p xs)) None within) ∙ ap f (sym e))
