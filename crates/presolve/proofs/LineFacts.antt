-- The lines of numbered items, one after another.
use Rattle.std.proofs.Common.{◌≡◌, ◌∙◌, ◌+◌, ◌<◌, ◌≤◌, ◌++◌, ℕ, List, sym, ap, arith, get_or, length, take}
use Rattle.std.specs.Prelude.{flat_map}
use Rattle.std.specs.List.{enumerate_from}
use Rattle.std.proofs.lemmas.List.{take_all}
use Rattle.std.proofs.lemmas.List.FromFn.{get_or-enumerate_from, length-enumerate_from}
use Rattle.byte_sinks.proofs.KnownByteFacts.{flat_map-next_or}

-- the item at a place after those before it
pub numbered-next : {X : Type 0} (line : ℕ × X → List ℕ) (xs : List X) (i : ℕ) (d : X) → i < length xs
    → flat_map line (take i (enumerate_from 1 xs)) ++ line (i + 1, get_or xs i d) ≡ flat_map line (take (i + 1) (enumerate_from 1 xs))
numbered-next {X} line xs i d small =
    let count = length-enumerate_from 1 xs in
    let within : i < length (enumerate_from 1 xs) = omega (arith, count, small) in
    let number : i + 1 ≡ 1 + i = omega arith in
    ap (λ (n : ℕ). flat_map line (take i (enumerate_from 1 xs)) ++ line (n, get_or xs i d)) number
    ∙ ap (λ (y : ℕ × X). flat_map line (take i (enumerate_from 1 xs)) ++ line y) (sym (get_or-enumerate_from 1 xs i (0, d) small))
    ∙ flat_map-next_or line (enumerate_from 1 xs) i (0, d) within

-- all of them
pub numbered-all : {X : Type 0} (line : ℕ × X → List ℕ) (xs : List X) (i : ℕ) → length xs ≤ i
    → flat_map line (take i (enumerate_from 1 xs)) ≡ flat_map line (enumerate_from 1 xs)
numbered-all {X} line xs i over =
    ap (λ (ys : List (ℕ × X)). flat_map line ys) (take_all i (enumerate_from 1 xs) (let count = length-enumerate_from 1 xs in omega (arith, count, over)))
