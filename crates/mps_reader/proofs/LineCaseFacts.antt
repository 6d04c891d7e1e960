-- What a line is, case by case.
use Rattle.std.proofs.Common.{◌≡◌, ℕ, suc, ◌≤◌, true, false, List, [], ◌∷◌, length, take, refl, sym, ap, subst, arith, drop}
use Rattle.std.specs.Prelude.{◌==◌, slice_index}
use Rattle.std.specs.List.{list_all, AllByRecursion}
use Rattle.std.proofs.lemmas.Bool.{eqb-true, eqb-false, ne_eqb}
use Rattle.auction_terms.specs.LineFields.{fields, is_space, field}
use Rattle.program_rows.specs.MpsLines.{Skipped, Unprintable, Data, line_of, Header}
use Rattle.program_rows.specs.Parts.{IsName}
use Rattle.mps_reader.specs.inside.Reading.{AreFirst, is_text_byte}
use Rattle.mps_reader.proofs.FieldFacts.{fields_names}
use Rattle.mps_reader.proofs.TextFacts.{other-filled}

pub line-empty : (bytes : List ℕ) → true ≡ (length bytes == 0) → line_of bytes ≡ Skipped
unfolding line_of fields
line-empty [] h = refl
line-empty (b ∷ bytes) h = absurd (omega (arith, eqb-true (suc (length bytes)) 0 (sym h)))

pub line-comment : (bytes : List ℕ) → (slice_index bytes 0 == 42) ≡ true → line_of bytes ≡ Skipped
unfolding line_of
line-comment bytes h = rw h refl

empty-front : (shown all : List (List ℕ)) → shown ≡ take 6 all → (length shown == 0) ≡ true → (length all == 0) ≡ true
empty-front shown [] e h = refl
empty-front shown (f ∷ all) e h = absurd (let size = ap length e in omega (arith, eqb-true _ _ h))

filled-front : (shown all : List (List ℕ)) → shown ≡ take 6 all → (length shown == 0) ≡ false → (length all == 0) ≡ false
filled-front shown [] e h = absurd (let size : length shown ≡ 0 = ap length e in eqb-false _ _ h size)
filled-front shown (f ∷ all) e h = ne_eqb (suc (length all)) 0 (λ k. omega arith)

pub line-blank : (bytes : List ℕ) (shown : List (List ℕ)) → shown ≡ take 6 (fields bytes) → (slice_index bytes 0 == 42) ≡ false
    → (length shown == 0) ≡ true → line_of bytes ≡ Skipped
unfolding line_of
line-blank bytes shown e a b = rw (a, empty-front shown (fields bytes) e b) refl

pub line-other : (bytes : List ℕ) → (slice_index bytes 0 == 42) ≡ false → list_all is_text_byte bytes ≡ false → line_of bytes ≡ Unprintable
unfolding line_of
line-other bytes a t = rw (a, other-filled bytes t, t) refl

pub line-data : (bytes : List ℕ) (shown : List (List ℕ)) → shown ≡ take 6 (fields bytes) → (slice_index bytes 0 == 42) ≡ false
    → (length shown == 0) ≡ false → list_all is_text_byte bytes ≡ true → is_space (slice_index bytes 0) ≡ true
    → line_of bytes ≡ Data (fields bytes)
unfolding line_of
line-data bytes shown e a b t s = rw (a, filled-front shown (fields bytes) e b, t, s) refl

pub line-header : (bytes : List ℕ) (shown : List (List ℕ)) → shown ≡ take 6 (fields bytes) → (slice_index bytes 0 == 42) ≡ false
    → (length shown == 0) ≡ false → list_all is_text_byte bytes ≡ true → is_space (slice_index bytes 0) ≡ false
    → line_of bytes ≡ Header (field 0 (fields bytes)) (drop 1 (fields bytes))
unfolding line_of
line-header bytes shown e a b t s = rw (a, filled-front shown (fields bytes) e b, t, s) refl

pub first-of : (bytes : List ℕ) (shown : List (List ℕ)) → shown ≡ take 6 (fields bytes) → (length shown == 0) ≡ false
    → list_all is_text_byte bytes ≡ true → AreFirst shown (fields bytes)
first-of bytes shown e b t = record {
  front = e;
  some = some shown b;
  names = subst (λ ns. AllByRecursion IsName ns) (sym e) (fields_names bytes t);
}
  where
    some : (xs : List (List ℕ)) → (length xs == 0) ≡ false → 1 ≤ length xs
    some [] h = absurd (eqb-false 0 0 h refl)
    some (x ∷ xs) h = omega arith
