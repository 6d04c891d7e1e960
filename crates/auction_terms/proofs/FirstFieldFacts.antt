-- The first field of a line, and what follows it.
use Rattle.std.proofs.Common.{◌≡◌, ℕ, suc, ◌+◌, ◌<◌, ◌≤◌, Bool, true, false, not, List, [], ◌∷◌, ◌==◌, get_or, take, drop, length, refl, sym, ap, ◌∙◌, arith}
use Rattle.std.specs.Prelude.{nat_lt}
use Rattle.std.specs.List.{onto_first, position_or_len, slice_split}
use Rattle.std.proofs.lemmas.Bool.{ltb-true, ltb-false, ne_eqb, not-true}
use Rattle.std.proofs.lemmas.List.{drop_all, drop_more, length-take-le, take_all}
use Rattle.std.proofs.lemmas.List.Sums.{passes_at_first}
use Rattle.std.proofs.lemmas.List.Splits.{slice_split-cons_no, slice_split_first}
use Rattle.auction_terms.specs.LineFields.{fields, is_space}

abbrev is_text : ℕ → Bool
is_text b = not (is_space b)

drop_one : (k x : ℕ) (xs : List ℕ) → drop (1 + k) (x ∷ xs) ≡ drop k xs
drop_one k x xs = ap (λ (n : ℕ). drop n (x ∷ xs)) (let t : 1 + k ≡ suc k = omega arith in t)

space_first : (x : ℕ) (xs : List ℕ) → is_space x ≡ true → fields (x ∷ xs) ≡ fields xs
unfolding fields
space_first x xs h = rw h refl

-- white space in front adds no field
pub skipped : (xs : List ℕ) → fields xs ≡ fields (drop (position_or_len is_text xs) xs)
skipped [] = refl
skipped (x ∷ xs) = by (is_space x) refl (skipped xs)
  where
    by : (b : Bool) → is_space x ≡ b → fields xs ≡ fields (drop (position_or_len is_text xs) xs)
        → fields (x ∷ xs) ≡ fields (drop (position_or_len is_text (x ∷ xs)) (x ∷ xs))
    by true h more = space_first x xs h ∙ more ∙ ap fields (rw h (sym (drop_one (position_or_len is_text xs) x xs)))
    by false h more = rw h refl

-- a list without white space is one part
one_part : (xs : List ℕ) → length xs ≤ position_or_len is_space xs → slice_split is_space xs ≡ xs ∷ []
one_part [] h = refl
one_part (x ∷ xs) h = by (is_space x) refl (one_part xs)
  where
    by : (b : Bool) → is_space x ≡ b → (length xs ≤ position_or_len is_space xs → slice_split is_space xs ≡ xs ∷ [])
        → slice_split is_space (x ∷ xs) ≡ (x ∷ xs) ∷ []
    by true e more = let bad = rw e at h in absurd (omega arith)
    by false e more =
        let less = rw e at h in
        slice_split-cons_no is_space x xs e ∙ ap (onto_first x) (more (omega arith))

-- a run of bytes that are no white space is the first field
word : (xs : List ℕ) (n : ℕ) → position_or_len is_space xs ≡ n → 0 < n → n ≤ length xs → fields xs ≡ take n xs ∷ fields (drop n xs)
unfolding fields
word xs n place some within = by (nat_lt n (length xs)) refl
  where
    some_bytes : (length (take n xs) == 0) ≡ false
    some_bytes = ne_eqb _ _ (λ e. omega (arith, length-take-le n xs within))

    by : (b : Bool) → nat_lt n (length xs) ≡ b → fields xs ≡ take n xs ∷ fields (drop n xs)
    by true h =
        let less = ltb-true _ _ h in
        let first : is_space (get_or xs n 0) ≡ true = rw place at (passes_at_first is_space xs 0 (rw place less)) in
        let first_part : slice_split is_space xs ≡ take n xs ∷ slice_split is_space (drop (n + 1) xs) =
        rw place at (slice_split_first is_space xs 0 (rw place less)) in
        let rest : fields (drop n xs) ≡ fields (drop (n + 1) xs) = ap fields (drop_more xs n 0 less) ∙ space_first (get_or xs n 0) (drop (n + 1) xs) first in
        rw (first_part, some_bytes, rest) refl
    by false h =
        let whole : n ≡ length xs = omega (arith, ltb-false _ _ h) in
        let all : take n xs ≡ xs = take_all n xs (omega arith) in
        let none : drop n xs ≡ [] = drop_all n xs (omega arith) in
        let size : (length xs == 0) ≡ false = rw all at some_bytes in
        rw (one_part xs (omega (arith, place)), size, all, none) refl

-- the first byte isn't white space
begins : (xs : List ℕ) (n : ℕ) → position_or_len is_text xs ≡ n → n < length xs → 0 < position_or_len is_space (drop n xs)
begins xs n place less =
    let first : is_text (get_or xs n 0) ≡ true = rw place at (passes_at_first is_text xs 0 (rw place less)) in
    rw (drop_more xs n 0 less, not-true (is_space (get_or xs n 0)) first) (omega arith)

-- the first field of a line, and what follows it
pub first_field : (line text : List ℕ) (start end : ℕ) → start ≡ position_or_len is_text line → start < length line → text ≡ drop start line
    → end ≡ position_or_len is_space text → end ≤ length text
    → fields line ≡ take end text ∷ fields (drop end text)
first_field line text start end at less is place within =
    let after : fields line ≡ fields text = skipped line ∙ ap fields (rw (← at, is) refl) in
    let some : 0 < end = (let b = begins line start (sym at) less in rw (← is, ← place) at b) in
    after ∙ word text end (sym place) some within

-- a line of white space alone has no field
pub no_fields : (line : List ℕ) → length line ≡ position_or_len is_text line → fields line ≡ []
unfolding fields
no_fields line at = skipped line ∙ ap fields (drop_all (position_or_len is_text line) line (omega (arith, at)))
