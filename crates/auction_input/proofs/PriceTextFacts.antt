-- What the lines of a text give, line by line.
use Rattle.std.proofs.Common.{◌≡◌, ◌≤◌, ◌+◌, ◌*◌, ◌%◌, ◌∷◌, ◌∙◌, [], ℕ, zero, suc, Bool, true, false, List, Option, None, Some, Result, Ok, Err}
use Rattle.std.proofs.Common.{ap, arith, leb-true, refl, subst, sym}
use Rattle.std.specs.Prelude.{◌==◌, ◌&&◌, IfSome, fold, if◌then◌else◌, nat_le}
use Rattle.std.specs.List.{AllByRecursion}
use Rattle.std.proofs.Math.Nat.{le-div_iff_mul-le, mul-le-mul_right}
use Rattle.std.proofs.lemmas.Bool.{and_parts, eq-eqb}
use Rattle.auction_terms.specs.FirstFault.{first_failed}
use Rattle.auction_terms.specs.Fractions.{fraction_of, gcd, greatest_up_to, lcm}
use Rattle.auction_terms.specs.Lines.{lines_of}
use Rattle.auction_terms.specs.RulesText.{is_between}
use Rattle.auction_terms.specs.Stages.{and_then}
use Rattle.auction_terms.specs.declared.fractions.Fraction.{Fraction}
use Rattle.auction_terms.specs.declared.limits.TheConstants.{GREATEST_AMOUNT, MOST_PARTS}
use Rattle.auction_input.proofs.AnswerFacts.{ok-after, ok-is, unless-ok}
use Rattle.auction_input.proofs.RecordFacts.{none-failed}
use Rattle.auction_input.specs.PriceTexts.{Known, checked_price, given_fields, has_price, parsed_lines, parsed_price, parsed_price_text, common_parts}
use Rattle.auction_input.specs.PriceTexts.{price_in_fields, winner_named, with_given}
use Rattle.auction_input.specs.declared.price_fault.PriceFault.{PriceFault}
use Rattle.auction_input.specs.declared.price_fault.PriceFault.TheVariants as fault
use Rattle.auction_input.specs.declared.price_reading.GivenPrice.{GivenPrice}

module _ {X : Type 0} (in_fields : List X → ℕ → List (List ℕ) → Result (Option X) PriceFault) (given : List X) (place : ℕ)
    (ahead rest : List (List ℕ)) (line : List ℕ) (all : Result (List X) PriceFault) (so_far : all ≡ parsed_lines in_fields given place ahead) where
  -- the next line
  from_line : ahead ≡ line ∷ rest → (r : Result (Option X) PriceFault) → r ≡ in_fields given place (given_fields line)
      → all ≡ and_then r (λ g. parsed_lines in_fields (with_given given g) (place + 1) rest)
  from_line next r is = so_far ∙ ap (λ (lines : List (List ℕ)). parsed_lines in_fields given place lines) next
      ∙ ap (λ (x : Result (Option X) PriceFault). and_then x (λ g. parsed_lines in_fields (with_given given g) (place + 1) rest))
      (sym is)

  pub one_line : (found : Option X) (after : List X) → ahead ≡ line ∷ rest
      → Ok found ≡ in_fields given place (given_fields line) → after ≡ with_given given found → all ≡ parsed_lines in_fields after (place + 1) rest
  one_line found after next is now = from_line next (Ok found) is ∙ ap (λ (g : List X). parsed_lines in_fields g (place + 1) rest) (sym now)

  pub faulty_line : (fault : PriceFault) → ahead ≡ line ∷ rest → Err fault ≡ in_fields given place (given_fields line) → all ≡ Err fault
  faulty_line fault next is = from_line next (Err fault) is

  pub no_line : ahead ≡ [] → all ≡ Ok given
  no_line none = so_far ∙ ap (λ (lines : List (List ℕ)). parsed_lines in_fields given place lines) none

-- ---- the parts in which prices are whole

up_to : (n : ℕ) (holds : ℕ → Bool) → greatest_up_to n holds ≤ n
up_to zero holds = omega arith
up_to (suc n) holds = by (holds (suc n)) refl (up_to n holds)
  where
    by : (b : Bool) → holds (suc n) ≡ b → greatest_up_to n holds ≤ n → (if holds (suc n) then suc n else greatest_up_to n holds) ≤ suc n
    by true e below = rw e (omega arith)
    by false e below = rw e (omega (arith, below))

from_one : (n : ℕ) (holds : ℕ → Bool) → 1 ≤ n → holds 1 ≡ true → 1 ≤ greatest_up_to n holds
from_one zero holds some one = absurd (omega arith)
from_one (suc zero) holds some one = rw one (omega arith)
from_one (suc (suc n)) holds some one = by (holds (suc (suc n))) refl (from_one (suc n) holds (omega arith) one)
  where
    by : (b : Bool) → holds (suc (suc n)) ≡ b → 1 ≤ greatest_up_to (suc n) holds
        → 1 ≤ (if holds (suc (suc n)) then suc (suc n) else greatest_up_to (suc n) holds)
    by true e below = rw e (omega arith)
    by false e below = rw e below

one-divides : (a b : ℕ) → ((a % 1 == 0) && (b % 1 == 0)) ≡ true
one-divides a b =
    let one : (a % 1 == 0) ≡ true = eq-eqb _ _ (omega arith) in
    let other : (b % 1 == 0) ≡ true = eq-eqb _ _ (omega arith) in
    rw (one, other) refl

lcm-some : (a b : ℕ) → 1 ≤ a → 1 ≤ b → 1 ≤ lcm a b
lcm-some a b one other =
    let positive : 1 ≤ gcd a b = from_one b (λ d. (a % d == 0) && (b % d == 0)) other (one-divides a b) in
    let small : gcd a b ≤ b = up_to b (λ d. (a % d == 0) && (b % d == 0)) in
    let wide : 1 * b ≤ a * b = mul-le-mul_right b one in
    (le-div_iff_mul-le positive).1 (omega (arith, small, wide))

parts-from : (parts : ℕ) (given : List GivenPrice) → 1 ≤ parts → AllByRecursion (λ g. 1 ≤ g.price.denominator) given
    → 1 ≤ fold (λ n (g : GivenPrice). lcm n g.price.denominator) parts given
parts-from parts [] some h = some
parts-from parts (g ∷ given) some h = parts-from (lcm parts g.price.denominator) given (lcm-some parts g.price.denominator some h.0) h.1

-- a price that a line gives isn't divided by 0
checked : (parts place b : ℕ) (o : Option Fraction) (g : GivenPrice) → checked_price parts place b o ≡ Ok g → 1 ≤ g.price.denominator
checked parts place b None g is = cc
checked parts place b (Some f) g is =
    let checks : List (Bool × PriceFault) = (is_between 1 MOST_PARTS f.denominator, fault.DenominatorRange place) ∷
    (nat_le f.numerator (GREATEST_AMOUNT * f.denominator), fault.PriceRange place) ∷
    (nat_le (lcm parts f.denominator) MOST_PARTS, fault.TooManyParts place) ∷ [] in
    let (none, same) = unless-ok (first_failed checks) (record { bidder = b; price = f; place = place }) g is in
    let between = (none-failed checks none).0 in
    let least = leb-true _ _ (and_parts (nat_le 1 f.denominator) (nat_le f.denominator MOST_PARTS) between).0 in
    subst (λ (x : GivenPrice). 1 ≤ x.price.denominator) same least

parsed : (before : List GivenPrice) (place : ℕ) (text : List ℕ) (b : ℕ) (g : GivenPrice) → parsed_price before place text b ≡ Ok g → 1 ≤ g.price.denominator
parsed before place text b g is = by (has_price before b) is
  where
    by : (t : Bool) → (if t then Err (fault.RepeatedName place) else checked_price (common_parts before) place b (fraction_of text)) ≡ Ok g
        → 1 ≤ g.price.denominator
    by true e = cc
    by false e = checked (common_parts before) place b (fraction_of text) g e

in-fields : (known : Known) (before : List GivenPrice) (place : ℕ) (fields : List (List ℕ)) (found : Option GivenPrice)
    → price_in_fields known before place fields ≡ Ok found → IfSome found (λ g. 1 ≤ g.price.denominator)
in-fields known before place [] found is = (let none : None ≡ found = ok-is _ None found refl is in
    subst (λ (o : Option GivenPrice). IfSome o (λ g. 1 ≤ g.price.denominator)) none tt)
in-fields known before place (name ∷ []) found is = cc
in-fields known before place (name ∷ text ∷ []) found is =
    let (b, b_is, later) = ok-after (winner_named known place name) _ found is in
    let (g, g_is, last) = ok-after (parsed_price before place text b) _ found later in
    let some : Some g ≡ found = ok-is _ (Some g) found refl last in
    subst (λ (o : Option GivenPrice). IfSome o (λ g. 1 ≤ g.price.denominator)) some (parsed before place text b g g_is)
in-fields known before place (name ∷ text ∷ more ∷ rest) found is = cc

with-one : (given : List GivenPrice) (found : Option GivenPrice) → AllByRecursion (λ g. 1 ≤ g.price.denominator) given
    → IfSome found (λ g. 1 ≤ g.price.denominator) → AllByRecursion (λ g. 1 ≤ g.price.denominator) (with_given given found)
with-one given None h one = h
with-one [] (Some g) h one = (one, tt)
with-one (x ∷ given) (Some g) h one = (h.0, with-one given (Some g) h.1 one)

each-divided : (known : Known) (before given : List GivenPrice) (place : ℕ) (lines : List (List ℕ)) → AllByRecursion (λ g. 1 ≤ g.price.denominator) before
    → parsed_lines (price_in_fields known) before place lines ≡ Ok given → AllByRecursion (λ g. 1 ≤ g.price.denominator) given
each-divided known before given place [] h is = (let same : before ≡ given = ok-is _ before given refl is in
    subst (λ (xs : List GivenPrice). AllByRecursion (λ g. 1 ≤ g.price.denominator) xs) same h)
each-divided known before given place (line ∷ more) h is =
    let (found, found_is, later) = ok-after (price_in_fields known before place (given_fields line)) _ given is in
    each-divided known (with_given before found) given (place + 1) more
    (with-one before found h (in-fields known before place (given_fields line) found found_is)) later

-- prices that a text gives are whole in some parts
pub parts-some : (known : Known) (text : List ℕ) (given : List GivenPrice) → parsed_price_text known text ≡ Ok given → 1 ≤ common_parts given
parts-some known text given is = parts-from 1 given (omega arith) (each-divided known [] given 1 (lines_of text) tt is)
