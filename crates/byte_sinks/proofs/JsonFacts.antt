-- What stands in a string of JSON.
use Rattle.std.proofs.Common.{◌≡◌, ◌∙◌, ℕ, suc, ◌+◌, ◌/◌, ◌%◌, ◌<◌, true, ◌||◌, ◌==◌, List, [], ◌∷◌, ◌++◌, inl, inr, ◌⊎◌, refl, sym, arith}
use Rattle.std.proofs.lemmas.Bool.{cases_Bool, and_from, or_cases, or_parts, eqb-true, eqb-false, le-leb, ltb-true}
use Rattle.std.proofs.lemmas.List.Folds.{list_all-append}
use Rattle.std.proofs.lemmas.List.Sums.{AllPass-from_list_all}
use Rattle.std.specs.Prelude.{nat_le, nat_lt}
use Rattle.std.specs.List.{All, AllPass, list_all}
use Rattle.std.specs.Char.{digit_char}
use Rattle.byte_sinks.specs.Json.{is_printable, json_byte, json_text}

-- the six bytes of a byte that isn't printable
abbrev pub in_digits : ℕ → List ℕ
in_digits b = 92 ∷ 117 ∷ 48 ∷ 48 ∷ digit_char (b / 16) ∷ digit_char (b % 16) ∷ []

-- a byte has one of three forms
pub data Form (b : ℕ) : Type 0 where
  marked : (b ≡ 34) ⊎ (b ≡ 92) → json_byte b ≡ 92 ∷ b ∷ [] → Form b
  itself : is_printable b ≡ true → (b ≡ 34 → ⊥) → (b ≡ 92 → ⊥) → json_byte b ≡ b ∷ [] → Form b
  digits : json_byte b ≡ in_digits b → Form b

either : (b : ℕ) → (b == 34 || b == 92) ≡ true → (b ≡ 34) ⊎ (b ≡ 92)
either b is = elim (or_cases (b == 34) (b == 92) is) [
  | inl e ↦ inl (eqb-true b 34 e)
  | inr e ↦ inr (eqb-true b 92 e)
]

pub form_of : (b : ℕ) → Form b
form_of b = elim (cases_Bool (b == 34 || b == 92)) [
  | inl is ↦ marked (either b is) (rw is refl)
  | inr un ↦ (elim (cases_Bool (is_printable b)) [
    | inl is ↦ itself is (eqb-false b 34 (or_parts (b == 34) (b == 92) un).0) (eqb-false b 92 (or_parts (b == 34) (b == 92) un).1) (rw (un, is) refl)
    | inr hidden ↦ digits (rw (un, hidden) refl)
  ])
]

-- all of a form is printable
digit-printable : (d : ℕ) → d < 16 → is_printable (digit_char d) ≡ true
digit-printable d h = elim (cases_Bool (nat_lt d 10)) [
  | inl is ↦ (
      let few = ltb-true d 10 is in
      rw is (and_from (nat_le 32 (48 + d)) (nat_le (48 + d) 126) (le-leb 32 (48 + d) (omega arith)) (le-leb (48 + d) 126 (omega arith))))
  | inr un ↦ rw un (and_from (nat_le 32 (87 + d)) (nat_le (87 + d) 126) (le-leb 32 (87 + d) (omega arith)) (le-leb (87 + d) 126 (omega arith)))
]

byte-printable : (b : ℕ) → b < 256 → list_all is_printable (json_byte b) ≡ true
byte-printable b h = elim (form_of b) [
  | marked (inl e) is ↦ rw (is, e) refl
  | marked (inr e) is ↦ rw (is, e) refl
  | itself it mark slash is ↦ rw (is, it) refl
  | digits is ↦ rw (is, digit-printable (b / 16) (omega arith), digit-printable (b % 16) (omega arith)) refl
]

printable : (text : List ℕ) → All (λ byte. byte < 256) text → list_all is_printable (json_text text) ≡ true
printable [] h = refl
printable (b ∷ text) h =
    list_all-append is_printable (json_byte b) (json_text text)
    ∙ and_from (list_all is_printable (json_byte b)) (list_all is_printable (json_text text)) (byte-printable b (h 0 0 (omega arith)))
    (printable text (λ k d lt. h (suc k) d (omega (arith, lt))))

pub string-printable : (text : List ℕ) → All (λ byte. byte < 256) text → AllPass is_printable (json_text text)
string-printable text h = AllPass-from_list_all is_printable (json_text text) (printable text h)

-- two digits of one number
digit-one : (m n : ℕ) → digit_char m ≡ digit_char n → m ≡ n
digit-one m n e = elim (cases_Bool (nat_lt m 10)) [
  | inl few ↦ (elim (cases_Bool (nat_lt n 10)) [
    | inl few_n ↦ (let same : 48 + m ≡ 48 + n = rw (few, few_n) at e in omega (arith, same))
    | inr more_n ↦ (let same : 48 + m ≡ 87 + n = rw (few, more_n) at e in let less = ltb-true m 10 few in absurd (omega (arith, same)))
  ])
  | inr more ↦ (elim (cases_Bool (nat_lt n 10)) [
    | inl few_n ↦ (let same : 87 + m ≡ 48 + n = rw (more, few_n) at e in let less = ltb-true n 10 few_n in absurd (omega (arith, same)))
    | inr more_n ↦ (let same : 87 + m ≡ 87 + n = rw (more, more_n) at e in omega (arith, same))
  ])
]

-- the first byte of a string, and what follows it
abbrev Step : ℕ → ℕ → List ℕ → List ℕ → Type 0
Step b c xs ys = (b ≡ c) × (xs ≡ ys)

first : (b c : ℕ) (xs ys : List ℕ) → b ∷ xs ≡ c ∷ ys → Step b c xs ys
first b c xs ys e = (cc, cc)

not-u : (b : ℕ) → (b ≡ 34) ⊎ (b ≡ 92) → b ≡ 117 → ⊥
not-u b (inl p) e = omega arith
not-u b (inr p) e = omega arith

same-digits : (b c : ℕ) (xs ys : List ℕ) → in_digits b ++ xs ≡ in_digits c ++ ys → Step b c xs ys
same-digits b c xs ys e =
    let high : digit_char (b / 16) ≡ digit_char (c / 16) = cc in
    let low : digit_char (b % 16) ≡ digit_char (c % 16) = cc in
    let rest : xs ≡ ys = cc in
    let one = digit-one (b / 16) (c / 16) high in
    let two = digit-one (b % 16) (c % 16) low in
    (omega (arith, one, two), rest)

same-forms : (b c : ℕ) (xs ys : List ℕ) → Form b → Form c → json_byte b ++ xs ≡ json_byte c ++ ys → Step b c xs ys
same-forms b c xs ys (marked p is) (marked q it) e =
    let same : 92 ∷ b ∷ xs ≡ 92 ∷ c ∷ ys = rw (is, it) at e in
    first b c xs ys (first 92 92 (b ∷ xs) (c ∷ ys) same).1
same-forms b c xs ys (marked p is) (itself q mark slash it) e =
    let same : 92 ∷ b ∷ xs ≡ c ∷ ys = rw (is, it) at e in
    absurd (slash (sym (first 92 c (b ∷ xs) ys same).0))
same-forms b c xs ys (marked p is) (digits it) e =
    let same : 92 ∷ b ∷ xs ≡ in_digits c ++ ys = rw (is, it) at e in
    let u : b ≡ 117 = cc in
    absurd (not-u b p u)
same-forms b c xs ys (itself p mark slash is) (marked q it) e =
    let same : b ∷ xs ≡ 92 ∷ c ∷ ys = rw (is, it) at e in
    absurd (slash (first b 92 xs (c ∷ ys) same).0)
same-forms b c xs ys (itself p mark slash is) (itself q mark_c slash_c it) e =
    let same : b ∷ xs ≡ c ∷ ys = rw (is, it) at e in
    first b c xs ys same
same-forms b c xs ys (itself p mark slash is) (digits it) e =
    let same : b ∷ xs ≡ in_digits c ++ ys = rw (is, it) at e in
    let first_byte : b ≡ 92 = cc in
    absurd (slash first_byte)
same-forms b c xs ys (digits is) (marked q it) e =
    let same : in_digits b ++ xs ≡ 92 ∷ c ∷ ys = rw (is, it) at e in
    let u : c ≡ 117 = cc in
    absurd (not-u c q u)
same-forms b c xs ys (digits is) (itself q mark slash it) e =
    let same : in_digits b ++ xs ≡ c ∷ ys = rw (is, it) at e in
    let first_byte : c ≡ 92 = cc in
    absurd (slash first_byte)
same-forms b c xs ys (digits is) (digits it) e =
    let same : in_digits b ++ xs ≡ in_digits c ++ ys = rw (is, it) at e in
    same-digits b c xs ys same

not-empty : (b : ℕ) (xs : List ℕ) → Form b → [] ≡ json_byte b ++ xs → ⊥
not-empty b xs (marked p is) e = let same : [] ≡ 92 ∷ b ∷ xs = rw is at e in cc
not-empty b xs (itself p mark slash is) e = let same : [] ≡ b ∷ xs = rw is at e in cc
not-empty b xs (digits is) e = let same : [] ≡ in_digits b ++ xs = rw is at e in cc

pub one-text : (text other : List ℕ) → json_text text ≡ json_text other → text ≡ other
one-text [] [] e = refl
one-text [] (c ∷ other) e = absurd (not-empty c (json_text other) (form_of c) e)
one-text (b ∷ text) [] e = absurd (not-empty b (json_text text) (form_of b) (sym e))
one-text (b ∷ text) (c ∷ other) e =
    let (same, rest) = same-forms b c (json_text text) (json_text other) (form_of b) (form_of c) e in
    let tail = one-text text other rest in
    cc
