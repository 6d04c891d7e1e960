-- Numbers that digits without a leading zero spell, and the bid that a name spells.
use Rattle.std.proofs.Common.{◌≡◌, ◌≢◌, ℕ, ◌+◌, ◌-◌, ◌^◌, ◌<◌, ◌≤◌, Bool, true, false, cond, ◌&&◌, List, [], ◌∷◌, ◌++◌}
use Rattle.std.proofs.Common.{Option, Some, None, length, length-append, get_or, refl, sym, ap, ap₂, ◌∙◌, subst, arith}
use Rattle.std.proofs.Common.{take, drop}
use Rattle.std.specs.Prelude.{◌==◌, decimal, bytes_eq}
use Rattle.std.specs.List.{AllByRecursion, before_first, after_first, position_or_len, list_all}
use Rattle.std.specs.Char.{is_ascii_digit, digit_value}
use Rattle.std.specs.Str.Parse.{AllDigits, digits_value}
use Rattle.std.proofs.lemmas.Bool.{and_parts, eqb-true}
use Rattle.std.proofs.lemmas.Bool.Decides.{nat_tests}
use Rattle.std.proofs.lemmas.Grind.{common_steps}
use Rattle.std.proofs.lemmas.List.Sums.{split_at_first, passes_at_first}
use Rattle.std.proofs.lemmas.Str.Parse.{IsNumeralModel, digit_from_value}
use Rattle.std.proofs.lemmas.Fmt.{decimal_is_IsNumeral, decimal-digits_value, first_decimal, length-decimal-le}
use Rattle.auction_terms.specs.declared.bids.Choice.{Choice}
use Rattle.program_rows.specs.Spelling.{bid_name, is_bid, column_bid}
use Rattle.auction_terms.proofs.PowerFacts.{pow_above}
use Rattle.auction_terms.proofs.FoldingFacts.{ascii-range}
use Rattle.program_rows.proofs.SpellingFacts.{no_bar, bar_at, before_at, after_at, bidder_range, bid_range, bid_name-injective, reads_back, reads_names_alone}

-- digits, in both words
to_digits : (ds : List ℕ) → list_all is_ascii_digit ds ≡ true → AllDigits 10 ds
to_digits [] h = tt
to_digits (d ∷ ds) h =
    let both = and_parts (is_ascii_digit d) (list_all is_ascii_digit ds) h in
    let r = ascii-range d both.0 in
    let value : digit_value d ≡ d - 48 = r.2 in
    let least : 48 ≤ d = r.0 in
    let most : d ≤ 57 = r.1 in
    (omega arith, to_digits ds both.1)

own : IsNumeralModel (AllDigits 10) (digits_value 10)
own = record { to = λ ds h. h; from = λ ds h. h; same = λ ds h. refl }

pub spelled : (text : List ℕ) → 0 < length text → length text ≤ 4 → get_or text 0 0 ≢ 48 → list_all is_ascii_digit text ≡ true
    → digits_value 10 text < 10 ^ 4 → decimal (digits_value 10 text) ≡ text
spelled text some few first digits low = decimal-digits_value own text (to_digits text digits) some (λ e. absurd (first e)) (omega arith)

pub below_four : (v k : ℕ) → v < 10 ^ (0 + k) → k ≤ 4 → v < 10 ^ 4
below_four v k h le = let most = pow_above k 4 le in let same : 0 + k ≡ k =
    omega arith in let low : v < 10 ^ k = subst (λ (n : ℕ). v < 10 ^ n) same h in omega (arith, most, low)

pub is_some : (n : ℕ) → (n == 0) ≡ false → 0 < n
is_some n h = grind (arith, nat_tests)

-- what a number spells, however it is read
pub digits_of_decimal : (n : ℕ) (text : List ℕ) → n < 10 ^ 4 → decimal n ≡ text → AllDigits 10 text
digits_of_decimal n text low e = subst (λ (ds : List ℕ). AllDigits 10 ds) e (decimal_is_IsNumeral n (omega arith)).0.1

pub not_empty : (n : ℕ) (text : List ℕ) → n < 10 ^ 4 → length text ≡ 0 → decimal n ≢ text
not_empty n text low h e = let some = (decimal_is_IsNumeral n (omega arith)).0.0 in let same = ap (λ (ds : List ℕ). length ds) e in omega arith

pub not_long : (n : ℕ) (text : List ℕ) → n < 10 ^ 4 → 4 < length text → decimal n ≢ text
not_long n text low h e = let few = length-decimal-le 4 n (omega arith) low (omega arith) in let same = ap (λ (ds : List ℕ). length ds) e in omega arith

pub no_zero_first : (n : ℕ) (text : List ℕ) → 1 ≤ n → n < 10 ^ 4 → get_or text 0 0 ≡ 48 → decimal n ≢ text
no_zero_first n text some low h e = let first = first_decimal n (omega arith) (omega arith) in let same = ap (λ (ds : List ℕ). get_or ds 0 0) e in omega arith

are_ascii : (ds : List ℕ) → AllDigits 10 ds → list_all is_ascii_digit ds ≡ true
are_ascii [] h = refl
are_ascii (d ∷ ds) h =
    let in_range = digit_from_value d h.0 in
    let digit : is_ascii_digit d ≡ true = grind (arith, common_steps, nat_tests, in_range) in
    rw (digit, are_ascii ds h.1) refl

pub only_digits : (n : ℕ) (text : List ℕ) → n < 10 ^ 4 → list_all is_ascii_digit text ≡ false → decimal n ≢ text
only_digits n text low h e = let d = are_ascii text (digits_of_decimal n text low e) in cc

-- ---------- the bid that a name spells ----------

no_choice : (t : Bool) (b j : ℕ) (name : List ℕ) → (is_bid b j && bytes_eq name (bid_name b j)) ≡ t
    → ((c : Choice) → cond {A = Option Choice} t (Some record { bidder = b; bid = j }) None ≡ Some c → ⊥)
    → cond {A = Option Choice} t (Some record { bidder = b; bid = j }) None ≡ None
no_choice true b j name h never = absurd (never record { bidder = b; bid = j } refl)
no_choice false b j name h never = refl

-- a name that spells no bid
pub none_named : (name : List ℕ) → ((b j : ℕ) → is_bid b j ≡ true → name ≢ bid_name b j) → column_bid name ≡ None
unfolding column_bid
none_named name never =
    let b = digits_value 10 (before_first (λ (c : ℕ). c == 95) (drop 1 name)) in
    let j = digits_value 10 (after_first (λ (c : ℕ). c == 95) (drop 1 name)) in
    no_choice (is_bid b j && bytes_eq name (bid_name b j)) b j name refl
    (λ c e. let r = reads_names_alone name c e in never c.bidder c.bid r.0 r.1)

pub no_name : (name : List ℕ) → length name ≡ 0 → None ≡ column_bid name
no_name name h = sym (none_named name (λ b j i e. let l = ap (λ (xs : List ℕ). length xs) e in absurd (omega arith)))

pub other_letter : (name : List ℕ) → get_or name 0 0 ≢ 88 → None ≡ column_bid name
other_letter name h = sym (none_named name (λ b j i e. h (ap (λ (xs : List ℕ). get_or xs 0 0) e)))

-- what follows the letter
after_letter : (name : List ℕ) (b j : ℕ) → name ≡ bid_name b j → drop 1 name ≡ decimal b ++ 95 ∷ decimal j
after_letter name b j e = ap (λ (xs : List ℕ). drop 1 xs) e

bidder_digits : (b j : ℕ) → is_bid b j ≡ true → AllByRecursion (λ d. (d == 95) ≡ false) (decimal b)
bidder_digits b j h = let most = (bidder_range b j h).1 in no_bar (decimal b) (decimal_is_IsNumeral b (omega arith)).0.1

pub without_bar : (name : List ℕ) → position_or_len (λ (c : ℕ). c == 95) (drop 1 name) ≡ length (drop 1 name) → None ≡ column_bid name
without_bar name h = sym (none_named name (λ b j i e.
    let numbers = after_letter name b j e in
    let place = ap (λ (xs : List ℕ). position_or_len (λ (c : ℕ). c == 95) xs) numbers ∙ bar_at (decimal b) (decimal j) (bidder_digits b j i) in
    let count = ap (λ (xs : List ℕ). length xs) numbers ∙ length-append (decimal b) (95 ∷ decimal j) in
    absurd (omega arith)))

pub other_bidder : (name front : List ℕ) → front ≡ before_first (λ (c : ℕ). c == 95) (drop 1 name)
    → ((n : ℕ) → 1 ≤ n → n < 10 ^ 4 → decimal n ≢ front) → None ≡ column_bid name
other_bidder name front f never = sym (none_named name (λ b j i e.
    let range = bidder_range b j i in
    let some = range.0 in
    let most = range.1 in
    let same = f ∙ ap (λ (xs : List ℕ). before_first (λ (c : ℕ). c == 95) xs) (after_letter name b j e)
    ∙ before_at (decimal b) (decimal j) (bidder_digits b j i) in
    never b some (omega arith) (sym same)))

pub other_bid : (name back : List ℕ) → back ≡ after_first (λ (c : ℕ). c == 95) (drop 1 name)
    → ((n : ℕ) → 1 ≤ n → n < 10 ^ 4 → decimal n ≢ back) → None ≡ column_bid name
other_bid name back f never = sym (none_named name (λ b j i e.
    let range = bid_range b j i in
    let some = range.0 in
    let most = range.1 in
    let same = f ∙ ap (λ (xs : List ℕ). after_first (λ (c : ℕ). c == 95) xs) (after_letter name b j e)
    ∙ after_at (decimal b) (decimal j) (bidder_digits b j i) in
    never j some (omega arith) (sym same)))

lettered : (name : List ℕ) → 0 < length name → get_or name 0 0 ≡ 88 → name ≡ 88 ∷ drop 1 name
lettered [] some first = absurd (omega arith)
lettered (x ∷ name) some first = ap (λ (b : ℕ). b ∷ name) first

-- a name of these parts is that of the bid
pub is_named : (name : List ℕ) (b j : ℕ) → 0 < length name → get_or name 0 0 ≡ 88 → position_or_len (λ (c : ℕ). c == 95) (drop 1 name) < length (drop 1 name)
    → decimal b ≡ before_first (λ (c : ℕ). c == 95) (drop 1 name) → decimal j ≡ after_first (λ (c : ℕ). c == 95) (drop 1 name) → name ≡ bid_name b j
is_named name b j some first place front back =
    let parts = split_at_first (λ (c : ℕ). c == 95) (drop 1 name) 0 place in
    let bar = eqb-true (get_or (drop 1 name) (position_or_len (λ (c : ℕ). c == 95) (drop 1 name)) 0) 95
    (passes_at_first (λ (c : ℕ). c == 95) (drop 1 name) 0 place) in
    lettered name some first
    ∙ ap (λ (xs : List ℕ). 88 ∷ xs) (parts
    ∙ ap (λ (x : ℕ). before_first (λ (c : ℕ). c == 95) (drop 1 name) ++ x ∷ after_first (λ (c : ℕ). c == 95) (drop 1 name)) bar
    ∙ ap₂ (λ (xs ys : List ℕ). xs ++ 95 ∷ ys) (sym front) (sym back))

pub read_as : (name : List ℕ) (b j : ℕ) → name ≡ bid_name b j → is_bid b j ≡ true → Some record { bidder = b; bid = j } ≡ column_bid name
read_as name b j e h = sym (reads_back b j h) ∙ ap column_bid (sym e)

pub out_of_range : (name : List ℕ) (b j : ℕ) → b < 2 ^ 64 → j < 2 ^ 64 → name ≡ bid_name b j → is_bid b j ≡ false → None ≡ column_bid name
out_of_range name b j lb lj e h = sym (none_named name (λ c k i f.
    let least = (bidder_range c k i).1 in
    let few = (bid_range c k i).1 in
    let same = bid_name-injective b j c k lb lj (omega arith) (omega arith) (sym e ∙ f) in
    let moved : is_bid b j ≡ is_bid c k = ap₂ is_bid same.0 same.1 in
    cc))

-- the parts of a name, as they are cut
module _ (name numbers : List ℕ) (bar : ℕ) (after : numbers ≡ drop 1 name) (at : bar ≡ position_or_len (λ (c : ℕ). c == 95) numbers) where
  pub front_is : (front : List ℕ) → front ≡ take bar numbers → front ≡ before_first (λ (c : ℕ). c == 95) (drop 1 name)
  front_is front f = f ∙ ap (λ (n : ℕ). take n numbers) at ∙ ap (λ (xs : List ℕ). before_first (λ (c : ℕ). c == 95) xs) after

  pub back_is : (back : List ℕ) → back ≡ drop (bar + 1) numbers → back ≡ after_first (λ (c : ℕ). c == 95) (drop 1 name)
  back_is back f = f ∙ ap (λ (n : ℕ). drop (n + 1) numbers) at ∙ ap (λ (xs : List ℕ). after_first (λ (c : ℕ). c == 95) xs) after

  pub bar_at_end : bar ≡ length numbers → position_or_len (λ (c : ℕ). c == 95) (drop 1 name) ≡ length (drop 1 name)
  bar_at_end e = sym (ap (λ (xs : List ℕ). position_or_len (λ (c : ℕ). c == 95) xs) after) ∙ sym at ∙ e ∙ ap (λ (xs : List ℕ). length xs) after

  pub bar_within : bar ≤ length numbers → bar ≢ length numbers → position_or_len (λ (c : ℕ). c == 95) (drop 1 name) < length (drop 1 name)
  bar_within le ne =
      let place = at ∙ ap (λ (xs : List ℕ). position_or_len (λ (c : ℕ). c == 95) xs) after in
      let count = ap (λ (xs : List ℕ). length xs) after in
      omega arith
