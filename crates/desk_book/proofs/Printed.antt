-- What is printed is read again: words and lines.
use Rattle.std.proofs.Common.{◌≡◌, ◌<◌, ◌≤◌, ◌+◌, ◌-◌, ◌*◌, ◌/◌, ◌%◌, ◌^◌, ◌++◌, ◌∙◌, ℕ, zero, suc, inl, inr, Bool, true, false, List, [], ◌∷◌, Some, append-nil, append_assoc, ap, arith, get_or, length, length-append, refl, sym, take}
use Rattle.std.proofs.Math.ListN.{get_or-append}
use Rattle.std.proofs.Math.Seq.{get_or-append_seam}
use Rattle.std.proofs.lemmas.Bool.{and_parts, cases_lt, eq-eqb, le-leb, leb-true, lt-ltb, ltb-true}
use Rattle.std.proofs.lemmas.Bool.Decides.{nat_tests}
use Rattle.std.proofs.lemmas.Fmt.{decimal_is_IsNumeral, digits_value-decimal, length-decimal-le}
use Rattle.std.proofs.lemmas.Grind.{common_steps}
use Rattle.std.proofs.lemmas.List.{get_or-take, length-take}
use Rattle.std.proofs.lemmas.List.Folds.{list_all-append}
use Rattle.std.proofs.lemmas.List.Elements.{All-from_recursion}
use Rattle.std.proofs.lemmas.List.Splits.{slice_split_at, slice_split_none}
use Rattle.std.proofs.lemmas.List.Sums.{AllPass-from_list_all, position_or_len_is}
use Rattle.std.proofs.lemmas.Str.Parse.{IsNumeralModel, digit_from_value, numerals_by_fold, tells_digits}
use Rattle.std.specs.Char.{is_ascii_alphabetic, is_ascii_alphanumeric, is_ascii_digit}
use Rattle.std.specs.List.{AllByRecursion, list_all, list_any}
use Rattle.std.specs.Prelude.{◌==◌, ◌&&◌, ◌||◌, codes, decimal, fold, nat_le, nat_lt, slice_index}
use Rattle.std.specs.Str.{bytes_eq}
use Rattle.std.specs.Str.Parse.{AllDigits}
use Rattle.auction_terms.specs.Names.{is_name}
use Rattle.auction_terms.specs.Numbers.{number_of}
use Rattle.desk_book.specs.Recording.{is_maker_word}
use Rattle.desk_book.specs.Digests.{sha_digits}
use Rattle.hex.proofs.HexLemmas.{length-encode_with}
use Rattle.hex.specs.Hex.{encode_lower, encode_with, lower_digits}
use Rattle.sha2.proofs.Facts256.{length-sha256}
use Rattle.sha2.specs.Sha256.{digest_bytes, sha256}
use Rattle.std.specs.Int.{byte_at, bytes_high_first, to_be_bytes, w32}
use Rattle.std.proofs.lemmas.Slice.Eq.{bytes_eq-Decides}
use Rattle.desk_book.specs.Calls.{digest_named, head_fields, is_hex_digit, line_end, number_up_to}
use Rattle.desk_book.specs.Words.{spaced}
use Rattle.desk_book.specs.declared.limits.TheConstants.{HEAD_LIMIT}

-- a word has neither blanks nor line ends
abbrev pub plain_byte : ℕ → Bool
plain_byte b = nat_le 33 b

abbrev pub IsPlain : List ℕ → Type 0
IsPlain w = list_all plain_byte w ≡ true

-- ---------- numbers ----------

are_digits : (ds : List ℕ) → AllDigits 10 ds → list_all is_ascii_digit ds ≡ true
are_digits [] h = refl
are_digits (d ∷ ds) h =
    let in_range = digit_from_value d h.0 in
    let digit : is_ascii_digit d ≡ true = grind (arith, common_steps, nat_tests, in_range) in
    rw (digit, are_digits ds h.1) refl

digits_plain : (ds : List ℕ) → AllDigits 10 ds → IsPlain ds
digits_plain [] h = refl
digits_plain (d ∷ ds) h =
    let in_range = digit_from_value d h.0 in
    let least : 48 ≤ d = in_range.0 in
    rw (le-leb 33 d (omega arith), digits_plain ds h.1) refl

pub decimal_plain : (n : ℕ) → n < 2 ^ 64 → IsPlain (decimal n)
decimal_plain n h = digits_plain (decimal n) (decimal_is_IsNumeral n h).0.1

pub decimal_short : (n : ℕ) → n < 2 ^ 64 → length (decimal n) ≤ 20
decimal_short n h = length-decimal-le 20 n (omega arith) (omega arith) h

by_fold : IsNumeralModel (AllDigits 10) (λ ds. fold (λ n digit. n * 10 + (digit - 48)) 0 ds)
by_fold = numerals_by_fold (AllDigits 10) tells_digits (λ m ds. fold (λ n digit. n * 10 + (digit - 48)) m ds)
    (record { empty = λ n. refl; more = λ n c cs r. refl })

pub number_back : (n : ℕ) → n < 10 ^ 18 → number_of (decimal n) ≡ Some n
number_back n h =
    let small : n < 2 ^ 64 = omega arith in
    let numeral = decimal_is_IsNumeral n small in
    let some : 0 < length (decimal n) = numeral.0.0 in
    let least : nat_le 1 (length (decimal n)) ≡ true = le-leb 1 (length (decimal n)) (omega arith) in
    let most : nat_le (length (decimal n)) 18 ≡ true = le-leb (length (decimal n)) 18 (length-decimal-le 18 n (omega arith) h small) in
    rw (least, most, are_digits (decimal n) numeral.0.1, digits_value-decimal by_fold n small) refl

pub number_up_to_back : (most n : ℕ) → n ≤ most → most < 10 ^ 18 → number_up_to most (decimal n) ≡ Some n
number_up_to_back most n few limit = rw (number_back n (omega arith), le-leb n most few) refl

-- ---------- names ----------

letters_plain : (w : List ℕ) → list_all is_ascii_alphanumeric w ≡ true → IsPlain w
letters_plain [] h = refl
letters_plain (b ∷ w) h =
    let both = and_parts (is_ascii_alphanumeric b) (list_all is_ascii_alphanumeric w) h in
    let letter = both.0 in
    let printable : nat_le 33 b ≡ true = grind (arith, common_steps, nat_tests, letter) in
    rw (printable, letters_plain w both.1) refl

-- ---------- lines ----------

no_blank : (w : List ℕ) → IsPlain w → AllByRecursion (λ b. (b == 32) ≡ false) w
no_blank [] h = tt
no_blank (b ∷ w) h =
    let both = and_parts (nat_le 33 b) (list_all plain_byte w) h in
    let least : 33 ≤ b = leb-true 33 b both.0 in
    let other : (b == 32) ≡ false = grind (arith, nat_tests, least) in
    (other, no_blank w both.1)

-- a word of a head line
abbrev pub IsHeadWord : List ℕ → Type 0
IsHeadWord w = IsPlain w × (length w ≤ 64)

-- the fields of words with blanks between are the words
pub fields_of_words : (w : List ℕ) (ws : List (List ℕ)) → IsPlain w → AllByRecursion IsHeadWord ws → head_fields (w ++ spaced ws) ≡ w ∷ ws
fields_of_words w [] first more =
    ap head_fields (append-nil w) ∙ slice_split_none (λ b. b == 32) w (All-from_recursion (λ b. (b == 32) ≡ false) w (no_blank w first))
fields_of_words w (v ∷ ws) first more =
    slice_split_at (λ b. b == 32) w 32 (v ++ spaced ws) (All-from_recursion (λ b. (b == 32) ≡ false) w (no_blank w first)) refl
    ∙ ap (λ (l : List (List ℕ)). w ∷ l) (fields_of_words v ws more.0.0 more.1)

-- a line without a line end inside
abbrev pub IsLine : List ℕ → Type 0
IsLine line = list_all (λ b. nat_le 32 b) line ≡ true

plain_line : (w : List ℕ) → IsPlain w → IsLine w
plain_line [] h = refl
plain_line (b ∷ w) h =
    let both = and_parts (nat_le 33 b) (list_all plain_byte w) h in
    let least : 33 ≤ b = leb-true 33 b both.0 in
    rw (le-leb 32 b (omega arith), plain_line w both.1) refl

lines_join : (xs ys : List ℕ) → IsLine xs → IsLine ys → IsLine (xs ++ ys)
lines_join xs ys x y = list_all-append (λ b. nat_le 32 b) xs ys ∙ rw (x, y) refl

spaced_line : (ws : List (List ℕ)) → AllByRecursion IsHeadWord ws → IsLine (spaced ws)
spaced_line [] h = refl
spaced_line (w ∷ ws) h = lines_join (32 ∷ w) (spaced ws) (plain_line w h.0.0) (spaced_line ws h.1)

pub spaced_few : (ws : List (List ℕ)) → AllByRecursion IsHeadWord ws → length (spaced ws) ≤ 65 * length ws
spaced_few [] h = omega arith
spaced_few (w ∷ ws) h =
    let word : length w ≤ 64 = h.0.1 in
    let more = spaced_few ws h.1 in
    omega (arith, more, word, length-append (32 ∷ w) (spaced ws))

pub spaced_join : (xs ys : List (List ℕ)) → spaced (xs ++ ys) ≡ spaced xs ++ spaced ys
spaced_join [] ys = refl
spaced_join (x ∷ xs) ys = ap (λ (l : List ℕ). (32 ∷ x) ++ l) (spaced_join xs ys) ∙ sym (append_assoc (32 ∷ x) (spaced xs) (spaced ys))

pub words_line : (w : List ℕ) (ws : List (List ℕ)) → IsPlain w → AllByRecursion IsHeadWord ws → IsLine (w ++ spaced ws)
words_line w ws first more = lines_join w (spaced ws) (plain_line w first) (spaced_line ws more)

-- a line ends at its line end
pub line_ends : (line more : List ℕ) → IsLine line → length line < HEAD_LIMIT → line_end (line ++ 10 ∷ more) ≡ Some (length line)
line_ends line more h few =
    let whole : List ℕ = line ++ 10 ∷ more in
    let cut : List ℕ = take HEAD_LIMIT whole in
    let size = length-append line (10 ∷ more) in
    let room = length-take HEAD_LIMIT whole in
    let inside : length line < length cut = omega arith in
    let here : (k : ℕ) → k < length line → (get_or cut k 0 == 10) ≡ false =
    λ k l. ap (λ b. b == 10) (get_or-take HEAD_LIMIT whole k 0 (omega arith) ∙ get_or-append line (10 ∷ more) 0 k l)
    ∙ (let least : 32 ≤ get_or line k 0 = leb-true 32 (get_or line k 0) (AllPass-from_list_all (λ b. nat_le 32 b) line h k 0 l) in grind (arith, nat_tests, least)) in
    let there : (get_or cut (length line) 0 == 10) ≡ true =
    ap (λ b. b == 10) (get_or-take HEAD_LIMIT whole (length line) 0 (omega arith) ∙ get_or-append_seam line 10 more 0) in
    let first = position_or_len_is (λ b. b == 10) cut (length line) 0 (omega arith) here (λ l. there) in
    rw first (rw (lt-ltb (length line) (length cut) inside) refl)

-- ---------- digests ----------

-- whether the first so many of the digits are digits of a digest
abbrev pass_below : ℕ → Bool
pass_below zero = true
pass_below (suc n) = is_hex_digit (slice_index lower_digits n) && pass_below n

pass_at : (n k : ℕ) → pass_below n ≡ true → k < n → is_hex_digit (slice_index lower_digits k) ≡ true
pass_at zero k h lt = absurd (omega arith)
pass_at (suc n) k h lt =
    let parts = and_parts (is_hex_digit (slice_index lower_digits n)) (pass_below n) h in
    elim (cases_lt k n) [
      | inl below ↦ pass_at n k parts.1 below
      | inr top ↦
          let e : k ≡ n = omega arith in
          rw e parts.0
    ]

digit_passes : (d : ℕ) → d < 16 → is_hex_digit (slice_index lower_digits d) ≡ true
digit_passes d lt = pass_at 16 d refl lt

encoded_digits : (xs : List ℕ) → list_all (λ b. nat_lt b 256) xs ≡ true → list_all is_hex_digit (encode_lower xs) ≡ true
unfolding encode_with
encoded_digits [] h = refl
encoded_digits (b ∷ xs) h =
    let both = and_parts (nat_lt b 256) (list_all (λ b. nat_lt b 256) xs) h in
    let small : b < 256 = ltb-true b 256 both.0 in
    rw (digit_passes (b / 16) (omega arith), digit_passes (b % 16) (omega arith), encoded_digits xs both.1) refl

byte_small : (k n : ℕ) → byte_at k n < 256
byte_small zero n = omega arith
byte_small (suc k) n = omega arith

high_bytes : (k n : ℕ) → list_all (λ b. nat_lt b 256) (bytes_high_first k n) ≡ true
high_bytes zero n = refl
high_bytes (suc k) n = rw (lt-ltb (byte_at k n) 256 (byte_small k n), high_bytes k n) refl

digest_small : (h : List ℕ) (n : ℕ) → list_all (λ b. nat_lt b 256) (digest_bytes h n) ≡ true
unfolding digest_bytes
digest_small h zero = refl
digest_small h (suc n) =
    list_all-append (λ b. nat_lt b 256) (digest_bytes h n) (to_be_bytes w32 (slice_index h n)) ∙ rw (digest_small h n, high_bytes 4 (slice_index h n)) refl

sha_small : (m : List ℕ) → list_all (λ b. nat_lt b 256) (sha256 m) ≡ true
unfolding sha256
sha_small m = digest_small _ 8

pub sha_length : (m : List ℕ) → length (sha_digits m) ≡ 64
sha_length m = let size = length-encode_with lower_digits (sha256 m) in let bytes = length-sha256 m in omega (arith, size, bytes)

-- the digits of a digest are one
pub sha_named : (m : List ℕ) → digest_named (sha_digits m) ≡ Some (sha_digits m)
sha_named m =
    let size : length (sha_digits m) == 64 ≡ true = eq-eqb (length (sha_digits m)) 64 (sha_length m) in
    rw (size, encoded_digits (sha256 m) (sha_small m)) refl

pub hex_plain : (w : List ℕ) → list_all is_hex_digit w ≡ true → IsPlain w
hex_plain [] h = refl
hex_plain (b ∷ w) h =
    let both = and_parts (is_hex_digit b) (list_all is_hex_digit w) h in
    let digit = both.0 in
    let printable : nat_le 33 b ≡ true = grind (arith, common_steps, nat_tests, digit) in
    rw (printable, hex_plain w both.1) refl

pub sha_plain : (m : List ℕ) → IsPlain (sha_digits m)
sha_plain m = hex_plain (sha_digits m) (encoded_digits (sha256 m) (sha_small m))

-- ---------- names ----------

pub record IsShortWord (w : List ℕ) : Type 0 where
  pub is_plain : IsPlain w
  pub few : length w ≤ 16

name_short : (w : List ℕ) (b : Bool) → is_name w ≡ b → (b || bytes_eq w (codes "-")) ≡ true → IsShortWord w
name_short w true named h =
    let outer = and_parts (nat_le (length w) 16 && list_any is_ascii_alphabetic (take 1 w)) (list_all is_ascii_alphanumeric w) named in
    let inner = and_parts (nat_le (length w) 16) (list_any is_ascii_alphabetic (take 1 w)) outer.0 in
    record { is_plain = letters_plain w outer.1; few = leb-true (length w) 16 inner.0 }
name_short w false named h =
    let same : w ≡ codes "-" = (bytes_eq-Decides w (codes "-")).0 h in
    rw same (record { is_plain = refl; few = omega arith })

pub maker_short : (w : List ℕ) → is_maker_word w ≡ true → IsShortWord w
maker_short w h = name_short w (is_name w) refl h
