-- Bytes written one after the other.
use Rattle.std.proofs.Common.{◌≡◌, ℕ, ◌+◌, ◌-◌, ◌<◌, ◌≤◌, ◌∙◌, List, [], ◌∷◌, ◌++◌, length, take, slice_index, slice_set, refl, sym, ap, arith, append_assoc}
use borrow.Rule.Slice.PartMut.{mid_len, mid_of, put_mid, same_len_mid}
use Rattle.std.proofs.lemmas.Slice.{take-put_mid}
use Rattle.std.proofs.lemmas.List.{length-set, length-take-le, take-set-le, take-take}
use Rattle.std.proofs.Math.Seq.{take-append-add}
use Rattle.std.proofs.lemmas.Grind.{take-set_at}
use Rattle.std.specs.Prelude.{◌/◌, ◌%◌, decimal}
use Rattle.std.proofs.lemmas.Fmt.{decimal_digit, decimal_step}

-- two bytes, one after the other
two_written : (at next end : ℕ) (xs front : List ℕ) (a b : ℕ) → next ≡ at + 1 → end ≡ at + 2 → end ≤ length xs → take at xs ≡ front
    → take end (slice_set (slice_set xs at a) next b) ≡ front ++ a ∷ b ∷ []
two_written at next end xs front a b e f room h =
    take-set_at (slice_set xs at a) next end b (omega arith) (omega (arith, length-set {A = ℕ}))
    ∙ ap (λ (ys : List ℕ). ys ++ b ∷ []) (take-set_at xs at next a e (omega arith) ∙ ap (λ (ys : List ℕ). ys ++ a ∷ []) h)
    ∙ append_assoc front (a ∷ []) (b ∷ [])

four_written : (last at : ℕ) (xs : List ℕ) (a b c d : ℕ) → last ≡ at + 3 → at + 4 ≤ length xs
    → take (at + 4) (slice_set (slice_set (slice_set (slice_set xs at a) (at + 1) b) (at + 2) c) last d) ≡ take at xs ++ a ∷ b ∷ c ∷ d ∷ []
four_written last at xs a b c d e room =
    two_written (at + 2) last (at + 4) (slice_set (slice_set xs at a) (at + 1) b) (take at xs ++ a ∷ b ∷ []) c d (omega arith) (omega arith)
    (omega (arith, length-set {A = ℕ}))
    (two_written at (at + 1) (at + 2) xs (take at xs) a b refl refl (omega arith) refl)
    ∙ append_assoc (take at xs) (a ∷ b ∷ []) (c ∷ d ∷ [])

-- a name of two, three or four bytes, by its first two and its last two
pub name_written : (at : ℕ) (xs name : List ℕ) → 2 ≤ length name → length name ≤ 4 → at + 4 ≤ length xs
    → take (at + length name) (slice_set (slice_set (slice_set (slice_set xs at (slice_index name 0)) (at + 1) (slice_index name 1))
    (at + (length name - 2)) (slice_index name (length name - 2))) (at + (length name - 2) + 1)
    (slice_index name (length name - 2 + 1))) ≡ take at xs ++ name
name_written at xs [] some few room = absurd (omega arith)
name_written at xs (a ∷ []) some few room = absurd (omega arith)
name_written at xs (a ∷ b ∷ []) some few room =
    two_written (at + 0) (at + 0 + 1) (at + 2) (slice_set (slice_set xs at a) (at + 1) b) (take at xs) a b refl (omega arith)
    (omega (arith, length-set {A = ℕ}))
    (take-set-le (at + 0) (slice_set xs at a) (at + 1) b (omega arith) ∙ take-set-le (at + 0) xs at a (omega arith) ∙ ap (λ (n : ℕ). take n xs) (omega arith))
name_written at xs (a ∷ b ∷ c ∷ []) some few room =
    two_written (at + 1) (at + 1 + 1) (at + 3) (slice_set (slice_set xs at a) (at + 1) b) (take at xs ++ a ∷ []) b c refl (omega arith)
    (omega (arith, length-set {A = ℕ}))
    (take-set-le (at + 1) (slice_set xs at a) (at + 1) b (omega arith) ∙ take-set_at xs at (at + 1) a refl (omega arith))
    ∙ append_assoc (take at xs) (a ∷ []) (b ∷ c ∷ [])
name_written at xs (a ∷ b ∷ c ∷ d ∷ []) some few room = four_written (at + 2 + 1) at xs a b c d (omega arith) room
name_written at xs (a ∷ b ∷ c ∷ d ∷ e ∷ name) some few room = absurd (omega arith)

pub one_digit : (at : ℕ) (xs : List ℕ) (n : ℕ) → n < 10 → at + 3 ≤ length xs
    → take (at + 3) (slice_set (slice_set (slice_set xs at 32) (at + 1) (48 + n)) (at + 2) 10) ≡ take at xs ++ (32 ∷ (decimal n ++ 10 ∷ []))
one_digit at xs n small room =
    take-set_at (slice_set (slice_set xs at 32) (at + 1) (48 + n)) (at + 2) (at + 3) 10 (omega arith) (omega (arith, length-set {A = ℕ}))
    ∙ ap (λ (ys : List ℕ). ys ++ 10 ∷ []) (two_written at (at + 1) (at + 2) xs (take at xs) 32 (48 + n) refl refl (omega arith) refl)
    ∙ append_assoc (take at xs) (32 ∷ (48 + n) ∷ []) (10 ∷ [])
    ∙ ap (λ (digits : List ℕ). take at xs ++ (32 ∷ (digits ++ 10 ∷ []))) (sym (decimal_digit n small))

-- the digits of a number of two
digits_of_two : (n : ℕ) → 10 ≤ n → n < 100 → decimal n ≡ (48 + n / 10) ∷ (48 + n % 10) ∷ []
digits_of_two n large small =
    decimal_step n large (omega arith) ∙ ap (λ (digits : List ℕ). digits ++ ((48 + n % 10) ∷ [])) (decimal_digit (n / 10) (omega arith))

pub two_digits : (at : ℕ) (xs : List ℕ) (n : ℕ) → 10 ≤ n → n < 100 → at + 4 ≤ length xs
    → take (at + 4) (slice_set (slice_set (slice_set (slice_set xs at 32) (at + 1) (48 + n / 10)) (at + 2) (48 + n % 10)) (at + 3) 10)
    ≡ take at xs ++ (32 ∷ (decimal n ++ 10 ∷ []))
two_digits at xs n large small room =
    four_written (at + 3) at xs 32 (48 + n / 10) (48 + n % 10) 10 refl room
    ∙ ap (λ (digits : List ℕ). take at xs ++ (32 ∷ (digits ++ 10 ∷ []))) (sym (digits_of_two n large small))

-- the blank after the name has room
put_within : (line new name : List ℕ) → length name + 2 ≤ length line → new ≡ name
    → 1 + length name < length (put_mid 1 (1 + length name - 1) (slice_set line 0 32) new)
put_within line new name room same =
    let begun : List ℕ = slice_set line 0 32 in
    let begun_length : length begun ≡ length line = length-set line 0 32 in
    let new_length : length new ≡ length name = ap length same in
    let part : length (mid_of 1 (1 + length name - 1) begun) ≡ 1 + length name - 1 = mid_len 1 (1 + length name) begun (omega arith) in
    let kept : length (put_mid 1 (1 + length name - 1) begun new) ≡ length begun = same_len_mid 1 (1 + length name - 1) begun new (omega arith) in
    omega arith

-- a name between blanks
pub front_written : (line new name : List ℕ) → length name + 2 ≤ length line → new ≡ name
    → take (1 + length name + 1) (slice_set (put_mid 1 (1 + length name - 1) (slice_set line 0 32) new) (1 + length name) 32) ≡ 32 ∷ (name ++ 32 ∷ [])
front_written line new name room same =
    let begun : List ℕ = slice_set line 0 32 in
    let begun_length : length begun ≡ length line = length-set line 0 32 in
    let ends : 1 + length name ≡ 1 + length new = ap (λ (ys : List ℕ). 1 + length ys) (sym same) in
    let front = take-put_mid 1 (1 + length name - 1) begun new (1 + length name) ends (omega arith) in
    let blank : take 1 begun ≡ 32 ∷ [] = take-set_at line 0 1 32 refl (omega arith) in
    take-set_at (put_mid 1 (1 + length name - 1) begun new) (1 + length name) (1 + length name + 1) 32 refl (put_within line new name room same)
    ∙ ap (λ (ys : List ℕ). ys ++ 32 ∷ []) (front ∙ ap (λ (ys : List ℕ). ys ++ new) blank ∙ ap (λ (ys : List ℕ). 32 ∷ ys) same)

-- a front that was copied with all of its room, as far as it counts
pub front_copied : (at count : ℕ) (lines front new : List ℕ) → length front ≡ 16 → at + 16 ≤ length lines → count ≤ 16 → new ≡ front
    → take (at + count) (put_mid at (at + 16 - at) lines new) ≡ take at lines ++ take count front
front_copied at count lines front new long room few same =
    let copied : List ℕ = put_mid at (at + 16 - at) lines new in
    let ends : at + 16 ≡ at + length new = ap (λ (n : ℕ). at + n) (sym (ap length same ∙ long)) in
    let whole : take (at + 16) copied ≡ take at lines ++ new = take-put_mid at (at + 16 - at) lines new (at + 16) ends (omega arith) in
    let before : length (take at lines) ≡ at = length-take-le at lines (omega arith) in
    sym (take-take (at + count) (at + 16) copied (omega arith))
    ∙ ap (λ (xs : List ℕ). take (at + count) xs) whole
    ∙ ap (λ (n : ℕ). take (n + count) (take at lines ++ new)) (sym before)
    ∙ take-append-add (take at lines) new count
    ∙ ap (λ (xs : List ℕ). take at lines ++ take count xs) same
