-- What is written line by line is read as the same lines.
use Rattle.std.proofs.Common.{◌≡◌, ℕ, zero, suc, ◌-◌, ◌<◌, ◌≤◌, Bool, true, false, not, cond, List, [], ◌∷◌, ◌++◌, length}
use Rattle.std.proofs.Common.{map, refl, sym, ap, ◌∙◌, append_assoc, arith}
use Rattle.std.specs.Prelude.{◌==◌, filter, flat_map, slice_index, ◌≢◌, ◌||◌, ◌&&◌, nat_le}
use Rattle.std.specs.Str.Lines.{strip_carriage_return}
use Rattle.std.specs.List.{slice_split, onto_first, join_with_byte, list_all, All, AllByRecursion}
use Rattle.std.proofs.lemmas.Bool.{ne_eqb}
use Rattle.std.proofs.lemmas.Grind.{common_steps}
use Rattle.std.proofs.lemmas.Bool.Decides.{nat_tests}
use Rattle.std.proofs.lemmas.List.Elements.{All-from_recursion}
use Rattle.std.proofs.lemmas.List.Folds.{list_all-append}
use Rattle.std.proofs.lemmas.List.Splits.{slice_split_at, slice_split_none}
use Rattle.auction_terms.specs.Lines.{is_line_feed, lines_of}
use Rattle.auction_terms.proofs.OfferFacts.{all_agree, all_append}
use Rattle.auction_terms.specs.LineFields.{fields, is_space}
use Rattle.program_rows.specs.MpsLines.{Line, Skipped, Unprintable, Header, Data, line_of}
use Rattle.program_rows.proofs.NamedItemFacts.{all_pass}
use Rattle.mps_text.proofs.LinePartFacts.{lines_of_parts, lines_are}
use Rattle.mps_text.specs.Text.{written}

-- printable, and no white space
abbrev pub Printable : ℕ → Type 0
Printable b = (33 ≤ b) × (b ≤ 126)

abbrev pub IsField : List ℕ → Type 0
IsField field = (0 < length field) × AllByRecursion Printable field

-- no element of these passes the test
none-passes : (p : ℕ → Bool) (bytes : List ℕ) → AllByRecursion (λ b. p b ≡ false) bytes → All (λ b. p b ≡ false) bytes
none-passes p bytes h = All-from_recursion (λ b. p b ≡ false) bytes h

-- a split has a first part
split_some : (p : ℕ → Bool) (xs : List ℕ) → (part : List ℕ) × (parts : List (List ℕ)) × (slice_split p xs ≡ part ∷ parts)
split_some p [] = ([], [], refl)
split_some p (x ∷ xs) =
    let more = split_some p xs in
    elim (p x) as (λ b. (part : List ℕ) × (parts : List (List ℕ)) × (cond b ([] ∷ slice_split p xs) (onto_first x (slice_split p xs)) ≡ part ∷ parts)) [
      | true ↦ ([], slice_split p xs, refl)
      | false ↦ (x ∷ more.0, more.1, ap (onto_first x) more.2)
    ]

-- ---- lines

-- neither a line feed nor a carriage return
abbrev Plain : ℕ → Type 0
Plain b = ((b == 10) ≡ false) × ((b == 13) ≡ false)

no_return : (bytes : List ℕ) (i : ℕ) → AllByRecursion Plain bytes → (slice_index bytes i == 13) ≡ false
no_return [] i h = refl
no_return (b ∷ bytes) zero h = h.0.1
no_return (b ∷ bytes) (suc i) h = no_return bytes i h.1

keeps : (bytes : List ℕ) → AllByRecursion Plain bytes → strip_carriage_return bytes ≡ bytes
keeps bytes h = rw (no_return bytes (length bytes - 1) h) refl

-- the first line of a text that goes on after it
pub lines-line : (bytes rest : List ℕ) → AllByRecursion Plain bytes → lines_of (bytes ++ 10 ∷ rest) ≡ bytes ∷ lines_of rest
lines-line bytes rest h =
    let more = split_some is_line_feed rest in
    let parts : slice_split is_line_feed (bytes ++ 10 ∷ rest)
    ≡ bytes ∷ more.0 ∷ more.1 = slice_split_at is_line_feed bytes 10 rest
    (none-passes is_line_feed bytes (all_agree Plain (λ b. (b == 10) ≡ false) bytes (λ b p. p.0) h)) refl
    ∙ ap (λ (w : List (List ℕ)). bytes ∷ w) more.2 in
    let first : lines_of_parts (slice_split is_line_feed (bytes ++ 10 ∷ rest)) ≡ bytes ∷ lines_of_parts (slice_split is_line_feed rest) =
    rw (parts, more.2, keeps bytes h) refl in
    lines_are (bytes ++ 10 ∷ rest) ∙ first ∙ ap (λ (w : List (List ℕ)). bytes ∷ w) (sym (lines_are rest))

-- ---- fields

printable-space : (b : ℕ) → Printable b → is_space b ≡ false
printable-space b h = grind (arith, common_steps, nat_tests)

no_space : (bytes : List ℕ) → AllByRecursion Printable bytes → All (λ b. is_space b ≡ false) bytes
no_space bytes h = none-passes is_space bytes (all_agree Printable (λ b. is_space b ≡ false) bytes printable-space h)

-- joined fields are split again
split_joined : (a : List ℕ) (more : List (List ℕ)) → AllByRecursion IsField (a ∷ more) → slice_split is_space (join_with_byte 32 (a ∷ more)) ≡ a ∷ more
split_joined a [] h = slice_split_none is_space a (no_space a h.0.1)
split_joined a (b ∷ more) h =
    slice_split_at is_space a 32 (join_with_byte 32 (b ∷ more)) (no_space a h.0.1) refl ∙ ap (λ (w : List (List ℕ)). a ∷ w) (split_joined b more h.1)

abbrev is_filled : List ℕ → Bool
is_filled part = not (length part == 0)

filled : (field : List ℕ) → 0 < length field → is_filled field ≡ true
filled field h = grind (arith, common_steps, nat_tests)

keeps_filled : (parts : List (List ℕ)) → AllByRecursion IsField parts → filter is_filled parts ≡ parts
keeps_filled [] h = refl
keeps_filled (a ∷ more) h = rw (filled a h.0.0, keeps_filled more h.1) refl

-- the fields of a line that begins with one
fields-joined : (a : List ℕ) (more : List (List ℕ)) → AllByRecursion IsField (a ∷ more) → fields (join_with_byte 32 (a ∷ more)) ≡ a ∷ more
unfolding fields
fields-joined a more h = rw (split_joined a more h) (keeps_filled (a ∷ more) h)

-- the fields of a line that begins with a space
fields-spaced : (a : List ℕ) (more : List (List ℕ)) → AllByRecursion IsField (a ∷ more) → fields (32 ∷ join_with_byte 32 (a ∷ more)) ≡ a ∷ more
unfolding fields
fields-spaced a more h = rw (split_joined a more h) (keeps_filled (a ∷ more) h)

-- ---- a line

-- a byte that a text may have
abbrev is_text_byte : ℕ → Bool
is_text_byte b = (b == 9) || (nat_le 32 b && nat_le b 126)

printable-text : (b : ℕ) → Printable b → is_text_byte b ≡ true
printable-text b h = grind (arith, common_steps, nat_tests)

printable-plain : (b : ℕ) → Printable b → ((b == 10) ≡ false) × ((b == 13) ≡ false)
printable-plain b h = (grind (arith, nat_tests), grind (arith, nat_tests))

all_text : (bytes : List ℕ) → AllByRecursion Printable bytes → list_all is_text_byte bytes ≡ true
all_text bytes h = all_pass is_text_byte bytes (all_agree Printable (λ b. is_text_byte b ≡ true) bytes printable-text h)

joined_text : (a : List ℕ) (more : List (List ℕ)) → AllByRecursion IsField (a ∷ more) → list_all is_text_byte (join_with_byte 32 (a ∷ more)) ≡ true
joined_text a [] h = all_text a h.0.1
joined_text a (b ∷ more) h = list_all-append is_text_byte a (32 ∷ join_with_byte 32 (b ∷ more)) ∙ rw (all_text a h.0.1, joined_text b more h.1) refl

joined_plain : (a : List ℕ) (more : List (List ℕ)) → AllByRecursion IsField (a ∷ more) → AllByRecursion Plain (join_with_byte 32 (a ∷ more))
joined_plain a [] h = all_agree Printable Plain a printable-plain h.0.1
joined_plain a (b ∷ more) h = all_append Plain a (32 ∷ join_with_byte 32 (b ∷ more)) (all_agree Printable Plain a printable-plain h.0.1)
    ((refl, refl), joined_plain b more h.1)

not_none : (n : ℕ) → (suc n == 0) ≡ false
not_none n = grind (arith, nat_tests)

-- a data line is read as it was written
pub line_of-data : (a : List ℕ) (more : List (List ℕ)) → AllByRecursion IsField (a ∷ more) → line_of (32 ∷ join_with_byte 32 (a ∷ more)) ≡ Data (a ∷ more)
unfolding line_of
line_of-data a more h = rw (fields-spaced a more h, joined_text a more h, not_none (length more)) refl

-- the word of a header does not begin with a star
abbrev pub IsHeader : List ℕ → List (List ℕ) → Type 0
IsHeader word more = (slice_index word 0 ≢ 42) × AllByRecursion IsField (word ∷ more)

first-joined : (a : List ℕ) (more : List (List ℕ)) → 0 < length a → slice_index (join_with_byte 32 (a ∷ more)) 0 ≡ slice_index a 0
first-joined a [] h = refl
first-joined [] (b ∷ more) h = absurd (omega arith)
first-joined (c ∷ bytes) (b ∷ more) h = refl

first_printable : (a : List ℕ) → IsField a → Printable (slice_index a 0)
first_printable [] h = absurd (omega (arith, h.0))
first_printable (b ∷ bytes) h = h.1.0

pub line_of-header : (word : List ℕ) (more : List (List ℕ)) → IsHeader word more → line_of (join_with_byte 32 (word ∷ more)) ≡ Header word more
unfolding line_of
line_of-header word more h =
    let star : (slice_index word 0 == 42) ≡ false = ne_eqb _ _ h.0 in
    let space : is_space (slice_index word 0) ≡ false = printable-space (slice_index word 0) (first_printable word h.1.0) in
    rw (first-joined word more h.1.0.0, fields-joined word more h.1, joined_text word more h.1, not_none (length more), star, space) refl

-- ---- all lines

abbrev pub IsWritten : Line → Type 0
IsWritten (Header word more) = IsHeader word more
IsWritten (Data (a ∷ more)) = AllByRecursion IsField (a ∷ more)
IsWritten line = ⊥

pub read_again : (written_lines : List Line) → AllByRecursion IsWritten written_lines → map line_of (lines_of (flat_map written written_lines)) ≡ written_lines
read_again [] h = refl
read_again (Header word more ∷ after) h =
    let bytes = join_with_byte 32 (word ∷ more) in
    let split : lines_of ((bytes ++ 10 ∷ []) ++ flat_map written after)
    ≡ bytes ∷ lines_of (flat_map written after) = ap lines_of (append_assoc bytes (10 ∷ []) (flat_map written after))
    ∙ lines-line bytes (flat_map written after) (joined_plain word more h.0.1) in
    rw (split, line_of-header word more h.0, read_again after h.1) refl
read_again (Data [] ∷ after) h = absurd h.0
read_again (Data (a ∷ more) ∷ after) h =
    let bytes = 32 ∷ join_with_byte 32 (a ∷ more) in
    let split : lines_of ((bytes ++ 10 ∷ []) ++ flat_map written after)
    ≡ bytes ∷ lines_of (flat_map written after) = ap lines_of (append_assoc bytes (10 ∷ []) (flat_map written after))
    ∙ lines-line bytes (flat_map written after) ((refl, refl), joined_plain a more h.0) in
    rw (split, line_of-data a more h.0, read_again after h.1) refl
read_again (Skipped ∷ after) h = absurd h.0
read_again (Unprintable ∷ after) h = absurd h.0
