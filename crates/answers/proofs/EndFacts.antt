-- How what is written ends: with a digit and a line feed, or with a line of words.
use Rattle.std.proofs.Common.{◌≡◌, ◌≤◌, ◌+◌, ◌*◌, ◌/◌, ◌%◌, ◌++◌, ◌∷◌, ◌∙◌, [], ℕ, zero, suc, Bool, true, false, Option, None, Some, flat_map, ⊎_elim, ◌⊎◌}
use Rattle.std.proofs.Common.{List, append_assoc, ap, arith, length, lt-ltb, refl, subst, sym, ℤ, pos, negsuc, ◌==◌, codes}
use Rattle.std.proofs.Common.{decimal, zip, append-nil, inl, inr, if◌then◌else◌}
use Rattle.std.proofs.lemmas.Bool.{cases_Bool}
use Rattle.std.specs.Fmt.{digit_glyph, digits, digits_onto, signed_decimal}
use Rattle.auction_terms.specs.declared.bids.Choice.{Choice}
use Rattle.auction_terms.specs.Fractions.{fraction_text, gcd}
use Rattle.outcome.specs.Pricing.{Priced, amount_text, in_pounds, paid, price_in, price_line, pricing_text, rule_line, sum_line}
use Rattle.outcome.specs.Others.{Others, others_text, tie_text}
use Rattle.outcome.specs.declared.others.Further.TheVariants as further
use Rattle.outcome.specs.declared.others.Further.{Further}
use Rattle.outcome.specs.Report.{allocation_text, cost, group_report, heading, in_turn, report_text}
use Rattle.bid_desk.specs.Sale.{Sale}

-- a digit, and a line feed after it
pub record EndsInDigit (text : List ℕ) : Type 0 where
  pub front : List ℕ
  pub digit : ℕ
  pub is : text ≡ front ++ digit ∷ 10 ∷ []
  pub small : digit ≤ 57

-- ---- numbers

ends-onto : (k n : ℕ) (more : List ℕ) (last : ℕ) → (front : List ℕ) × (digits_onto k 10 false n (more ++ last ∷ []) ≡ front ++ last ∷ [])
ends-onto zero n more last = (more, refl)
ends-onto (suc k) n more last =
    let (front, ends) = ends-onto k (n / 10) (digit_glyph false (n % 10) ∷ more) last in
    elim (cases_Bool (n / 10 == 0)) [ inl is ↦ (digit_glyph false (n % 10) ∷ more, rw is refl) | inr is ↦ (front, rw is ends) ]

glyph-is : (n : ℕ) → digit_glyph false (n % 10) ≡ 48 + n % 10
glyph-is n = (let below = lt-ltb (n % 10) 10 (omega arith) in rw below refl)

ends-from : (k n : ℕ) → (front : List ℕ) × (digits_onto (suc k) 10 false n [] ≡ front ++ digit_glyph false (n % 10) ∷ [])
ends-from k n =
    let (front, ends) = ends-onto k (n / 10) [] (digit_glyph false (n % 10)) in
    elim (cases_Bool (n / 10 == 0)) [ inl is ↦ ([], rw is refl) | inr is ↦ (front, rw is ends) ]

decimal-is : (n : ℕ) → decimal n ≡ digits_onto 64 10 false n []
unfolding digits
decimal-is n = refl

-- a number ends with a digit
decimal-ends : (n : ℕ) → (front : List ℕ) × (decimal n ≡ front ++ (48 + n % 10) ∷ [])
decimal-ends n =
    let (front, ends) = ends-from 63 n in
    (front, decimal-is n ∙ ends ∙ ap (λ (glyph : ℕ). front ++ glyph ∷ []) (glyph-is n))

number-ends : (before : List ℕ) (n : ℕ) → EndsInDigit (before ++ (decimal n ++ 10 ∷ []))
number-ends before n =
    let (front, is) = decimal-ends n in
    record {
      front = before ++ front;
      digit = 48 + n % 10;
      is = ap (λ (digits : List ℕ). before ++ (digits ++ 10 ∷ [])) is
          ∙ ap (λ (end : List ℕ). before ++ end) (append_assoc front ((48 + n % 10) ∷ []) (10 ∷ []))
          ∙ sym (append_assoc before front ((48 + n % 10) ∷ 10 ∷ []));
      small = omega arith;
    }

-- with more in front
after-more : (before text : List ℕ) → EndsInDigit text → EndsInDigit (before ++ text)
after-more before text ends = record {
  front = before ++ ends.front;
  digit = ends.digit;
  is = ap (λ (end : List ℕ). before ++ end) ends.is ∙ sym (append_assoc before ends.front (ends.digit ∷ 10 ∷ []));
  small = ends.small;
}

signed-ends : (before : List ℕ) (z : ℤ) → EndsInDigit (before ++ (signed_decimal z ++ 10 ∷ []))
signed-ends before (pos n) = number-ends before n
signed-ends before (negsuc n) = after-more before (45 ∷ (decimal (suc n) ++ 10 ∷ [])) (number-ends (45 ∷ []) (suc n))

-- ---- amounts, with the exact one after what is paid

-- a number, then nothing or more that ends so
ends-after : (before : List ℕ) (n : ℕ) (more : List ℕ) → EndsInDigit (before ++ (decimal n ++ (more ++ 10 ∷ [])))
    → EndsInDigit (before ++ ((decimal n ++ more) ++ 10 ∷ []))
ends-after before n more ends = subst (λ (xs : List ℕ). EndsInDigit (before ++ xs)) (sym (append_assoc (decimal n) more (10 ∷ []))) ends

abbrev denominator_text : Bool → ℕ → List ℕ
denominator_text whole d = if whole then [] else 47 ∷ decimal d

denominator-ends : (before : List ℕ) (n d : ℕ) (whole : Bool) → EndsInDigit (before ++ ((decimal n ++ denominator_text whole d) ++ 10 ∷ []))
denominator-ends before n d true = ends-after before n [] (number-ends before n)
denominator-ends before n d false =
    ends-after before n (47 ∷ decimal d) (after-more before _ (after-more (decimal n) _ (number-ends (47 ∷ []) d)))

fraction-ends : (before : List ℕ) (parts n : ℕ) → EndsInDigit (before ++ (fraction_text parts n ++ 10 ∷ []))
fraction-ends before parts n = denominator-ends before (n / gcd n parts) (parts / gcd n parts) (parts / gcd n parts == 1)

abbrev exact_or : Bool → ℕ → ℕ → List ℕ
exact_or same parts exact = if same then [] else 32 ∷ fraction_text parts exact

exact-ends : (before : List ℕ) (parts pounds exact : ℕ) (same : Bool) → EndsInDigit (before ++ ((decimal pounds ++ exact_or same parts exact) ++ 10 ∷ []))
exact-ends before parts pounds exact true = ends-after before pounds [] (number-ends before pounds)
exact-ends before parts pounds exact false =
    ends-after before pounds (32 ∷ fraction_text parts exact) (after-more before _ (after-more (decimal pounds) _ (fraction-ends (32 ∷ []) parts exact)))

amount-ends : (before : List ℕ) (parts pounds exact : ℕ) → EndsInDigit (before ++ (amount_text parts pounds exact ++ 10 ∷ []))
amount-ends before parts pounds exact = exact-ends before parts pounds exact (parts * pounds == exact)

-- ---- allocations and reports

allocation-ends : (sale : Sale) (a : List Choice) → EndsInDigit (allocation_text sale a)
allocation-ends sale a = after-more _ _ (number-ends (codes "total ") _)

group-ends : (sale : Sale) (first : List Choice) (k : ℕ) (item : List ℕ × List Choice) → EndsInDigit (group_report sale first k item)
group-ends sale first k item =
    after-more (heading (codes "group ") sale.names k item.0) _ (after-more (allocation_text sale item.1) _
    (signed-ends (codes "cost ") (cost sale.lots sale.book first item.0 item.1)))

groups-end : (sale : Sale) (first : List Choice) (k : ℕ) (item : List ℕ × List Choice) (items : List (List ℕ × List Choice))
    → EndsInDigit (in_turn (group_report sale first) k (item ∷ items))
groups-end sale first k item [] = subst EndsInDigit (sym (append-nil (group_report sale first k item))) (group-ends sale first k item)
groups-end sale first k item (next ∷ items) = after-more (group_report sale first k item) _ (groups-end sale first (k + 1) next items)

-- a report on a first group
pub report-ends : (sale : Sale) (groups : List (List ℕ)) (won : List (List Choice)) → 1 ≤ length (zip groups won) → EndsInDigit (report_text sale groups won)
report-ends sale [] won some = absurd (omega arith)
report-ends sale (group ∷ groups) [] some = absurd (omega arith)
report-ends sale (group ∷ groups) (a ∷ won) some = groups-end sale a 1 (group, a) (zip groups won)

ties-end : (sale : Sale) (a : List Choice) (awards : List (List Choice)) → EndsInDigit (flat_map (tie_text sale) (a ∷ awards))
ties-end sale a [] = subst EndsInDigit (sym (append-nil (tie_text sale a))) (after-more (codes "tie\n") _ (allocation-ends sale a))
ties-end sale a (b ∷ awards) = after-more (tie_text sale a) _ (ties-end sale b awards)

-- ---- the last bytes of a line

-- the last byte but one
abbrev second_last : List ℕ → ℕ
second_last [] = 0
second_last (a ∷ []) = 0
second_last (a ∷ b ∷ []) = a
second_last (a ∷ b ∷ c ∷ more) = second_last (b ∷ c ∷ more)

second-last-is : (xs : List ℕ) (a b : ℕ) → second_last (xs ++ a ∷ b ∷ []) ≡ a
second-last-is [] a b = refl
second-last-is (x ∷ []) a b = refl
second-last-is (x ∷ y ∷ []) a b = refl
second-last-is (x ∷ y ∷ z ∷ xs) a b = second-last-is (y ∷ z ∷ xs) a b

-- the last byte but two
abbrev third_last : List ℕ → ℕ
third_last [] = 0
third_last (a ∷ []) = 0
third_last (a ∷ b ∷ []) = 0
third_last (a ∷ b ∷ c ∷ []) = a
third_last (a ∷ b ∷ c ∷ d ∷ more) = third_last (b ∷ c ∷ d ∷ more)

third-last-is : (xs : List ℕ) (a b c : ℕ) → third_last (xs ++ a ∷ b ∷ c ∷ []) ≡ a
third-last-is [] a b c = refl
third-last-is (x ∷ []) a b c = refl
third-last-is (x ∷ y ∷ []) a b c = refl
third-last-is (x ∷ y ∷ z ∷ []) a b c = refl
third-last-is (x ∷ y ∷ z ∷ w ∷ xs) a b c = third-last-is (y ∷ z ∷ w ∷ xs) a b c

-- a text whose last line ends with two bytes
record EndsInTwo (a b : ℕ) (text : List ℕ) : Type 0 where
  third : third_last text ≡ a
  second : second_last text ≡ b

in-two : (before : List ℕ) (a b : ℕ) → EndsInTwo a b (before ++ a ∷ b ∷ 10 ∷ [])
in-two before a b = record {
  third = third-last-is before a b 10;
  second = ap second_last (sym (append_assoc before (a ∷ []) (b ∷ 10 ∷ []))) ∙ second-last-is (before ++ a ∷ []) b 10;
}

-- a word, after whatever
word-ends : (before word : List ℕ) (a b : ℕ) → EndsInTwo a b (before ++ (word ++ a ∷ b ∷ 10 ∷ []))
word-ends before word a b = subst (EndsInTwo a b) (append_assoc before word (a ∷ b ∷ 10 ∷ [])) (in-two (before ++ word) a b)

unique-ends : (before : List ℕ) → EndsInTwo 117 101 (before ++ codes "unique\n")
unique-ends before = word-ends before (codes "uniq") 117 101

no-other-ends : (before : List ℕ) → EndsInTwo 101 114 (before ++ codes "no other\n")
no-other-ends before = word-ends before (codes "no oth") 101 114

more-ends : (before : List ℕ) → EndsInTwo 114 101 (before ++ codes "and more\n")
more-ends before = word-ends before (codes "and mo") 114 101

rule-ends : (before : List ℕ) → EndsInTwo 108 101 (before ++ codes "by the rule\n")
rule-ends before = word-ends before (codes "by the ru") 108 101

-- letters aren't digits
not-in-digit : (a b : ℕ) (text : List ℕ) → 58 ≤ b → EndsInTwo a b text → EndsInDigit text → ⊥
not-in-digit a b text letter two ends =
    let same : b ≡ ends.digit = sym two.second ∙ ap second_last ends.is ∙ second-last-is ends.front ends.digit 10 in
    let small = ends.small in
    omega arith

-- ---- what stands after a report

module _ (sale : Sale) (report : List ℕ) (reported : EndsInDigit report) (first : List Choice) where
  abbrev prices : Option Priced → List ℕ
  prices o = pricing_text sale first o

  -- all that is written
  abbrev pub written : Option Priced → Others → List ℕ
  written o others = report ++ (prices o ++ others_text sale others)

  abbrev lines : Priced → List ℕ
  lines p = flat_map (price_line sale p) first

  sum-ends : (p : Priced) → EndsInDigit (report ++ (codes "prices\n" ++ (lines p ++ (sum_line p first ++ []))))
  sum-ends p = after-more report _ (after-more (codes "prices\n") _ (after-more (lines p) _ (subst EndsInDigit (sym (append-nil (sum_line p first)))
      (amount-ends (codes "sum ") p.parts (paid (in_pounds p.parts (price_in p.prices)) first) (paid (price_in p.prices) first)))))

  -- before the line of the rule
  abbrev priced : Priced → List ℕ
  priced p = report ++ (codes "prices\n" ++ (lines p ++ sum_line p first))

  apart : (p : Priced) (end : List ℕ) → report ++ (codes "prices\n" ++ (lines p ++ (sum_line p first ++ end))) ≡ priced p ++ end
  apart p end =
      ap (λ (xs : List ℕ). report ++ (codes "prices\n" ++ xs)) (sym (append_assoc (lines p) (sum_line p first) end))
      ∙ ap (λ (xs : List ℕ). report ++ xs) (sym (append_assoc (codes "prices\n") (lines p ++ sum_line p first) end))
      ∙ sym (append_assoc report (codes "prices\n" ++ (lines p ++ sum_line p first)) end)

  -- prices end with a digit, or with the line of the rule
  prices-end : (p : Priced) (by_rule : Bool)
      → EndsInDigit (report ++ (codes "prices\n" ++ (lines p ++ (sum_line p first ++ rule_line by_rule))))
      ⊎ EndsInTwo 108 101 (report ++ (codes "prices\n" ++ (lines p ++ (sum_line p first ++ rule_line by_rule))))
  prices-end p false = inl (sum-ends p)
  prices-end p true = inr (subst (EndsInTwo 108 101) (sym (apart p (codes "by the rule\n"))) (rule-ends (priced p)))

  -- where nothing is said of other awards
  silent-ends : (o : Option Priced) → EndsInDigit (report ++ prices o) ⊎ EndsInTwo 108 101 (report ++ prices o)
  silent-ends None = inl (subst EndsInDigit (sym (append-nil report)) reported)
  silent-ends (Some p) = prices-end p p.by_rule

  last-apart : (o : Option Priced) (ties last : List ℕ) → report ++ (prices o ++ (ties ++ last)) ≡ (report ++ (prices o ++ ties)) ++ last
  last-apart o ties last = ap (λ (xs : List ℕ). report ++ xs) (sym (append_assoc (prices o) ties last)) ∙ sym (append_assoc report (prices o ++ ties) last)

  -- the end of what is written, by what is known of further awards
  unknown-ends : (o : Option Priced) (awards : List (List Choice))
      → EndsInDigit (written o (record { awards = awards; further = further.Unknown })) ⊎ EndsInTwo 108 101 (written o (record { awards = awards; further = further.Unknown }))
  unknown-ends o [] = subst (λ (xs : List ℕ). EndsInDigit (report ++ xs) ⊎ EndsInTwo 108 101 (report ++ xs)) (sym (append-nil (prices o))) (silent-ends o)
  unknown-ends o (a ∷ awards) = inl (after-more report _ (after-more (prices o) _
      (subst EndsInDigit (sym (append-nil (flat_map (tie_text sale) (a ∷ awards)))) (ties-end sale a awards))))

  last-ends : (a b : ℕ) (o : Option Priced) (ties last : List ℕ) → ((before : List ℕ) → EndsInTwo a b (before ++ last))
      → EndsInTwo a b (report ++ (prices o ++ (ties ++ last)))
  last-ends a b o ties last ends = subst (EndsInTwo a b) (sym (last-apart o ties last)) (ends (report ++ (prices o ++ ties)))

  -- one end isn't another
  not-unknown : (a b : ℕ) (o : Option Priced) (awards : List (List Choice)) → 58 ≤ b → (a ≡ 108 → b ≡ 101 → ⊥)
      → EndsInTwo a b (written o (record { awards = awards; further = further.Unknown })) → ⊥
  not-unknown a b o awards letter rule two = ⊎_elim
      (λ digit. not-in-digit a b (written o (record { awards = awards; further = further.Unknown })) letter two digit)
      (λ by_rule. rule (sym two.third ∙ by_rule.third) (sym two.second ∙ by_rule.second))
      (unknown-ends o awards)

  not-two : (a b c d : ℕ) (text : List ℕ) → EndsInTwo a b text → EndsInTwo c d text → (a ≡ c) × (b ≡ d)
  not-two a b c d text one other = (sym one.third ∙ other.third, sym one.second ∙ other.second)

  -- the line `unique` is the last one only if nothing else is printed and there is no other
  pub says-unique : (before : List ℕ) (o : Option Priced) (others : Others) → before ++ codes "unique\n" ≡ written o others
      → (others.further ≡ further.NoOther) × (others.awards ≡ [])
  says-unique before o others is = by others.further others.awards (subst (EndsInTwo 117 101) is (unique-ends before))
    where
      by : (f : Further) (awards : List (List Choice)) → EndsInTwo 117 101 (written o (record { awards = awards; further = f }))
          → (f ≡ further.NoOther) × (awards ≡ [])
      by further.Unknown awards two = absurd (not-unknown 117 101 o awards (omega arith) (λ a b. omega (arith, a)) two)
      by further.NoOther [] two = (refl, refl)
      by further.NoOther (a ∷ awards) two =
          (let (x, y) = not-two 117 101 101 114 _ two (last-ends 101 114 o (flat_map (tie_text sale) (a ∷ awards)) (codes "no other\n") no-other-ends) in
          absurd (omega (arith, x)))
      by further.More awards two =
          (let (x, y) = not-two 117 101 114 101 _ two (last-ends 114 101 o (flat_map (tie_text sale) awards) (codes "and more\n") more-ends) in
          absurd (omega (arith, x)))

  -- and so is the line `no other` after others
  pub says-no-other : (before : List ℕ) (o : Option Priced) (others : Others) → before ++ codes "no other\n" ≡ written o others
      → (others.further ≡ further.NoOther) × (written o others ≡ report ++ (prices o ++ (flat_map (tie_text sale) others.awards ++ codes "no other\n")))
  says-no-other before o others is = by others.further others.awards (subst (EndsInTwo 101 114) is (no-other-ends before))
    where
      by : (f : Further) (awards : List (List Choice)) → EndsInTwo 101 114 (written o (record { awards = awards; further = f }))
          → (f ≡ further.NoOther) × (written o (record { awards = awards; further = f }) ≡ report ++ (prices o ++ (flat_map (tie_text sale) awards ++ codes "no other\n")))
      by further.Unknown awards two = absurd (not-unknown 101 114 o awards (omega arith) (λ a b. omega (arith, a)) two)
      by further.NoOther [] two =
          (let (x, y) = not-two 101 114 117 101 _ two (last-ends 117 101 o [] (codes "unique\n") unique-ends) in absurd (omega (arith, x)))
      by further.NoOther (a ∷ awards) two = (refl, refl)
      by further.More awards two =
          (let (x, y) = not-two 101 114 114 101 _ two (last-ends 114 101 o (flat_map (tie_text sale) awards) (codes "and more\n") more-ends) in
          absurd (omega (arith, x)))

  -- prices are there, and called those of the rule, where the line of the rule stands before `unique`
  pub says-by-rule : (before : List ℕ) (o : Option Priced) → before ++ codes "by the rule\n" ≡ report ++ prices o
      → (p : Priced) × (o ≡ Some p) × (p.by_rule ≡ true)
  says-by-rule before None is =
      absurd (not-in-digit 108 101 (report ++ []) (omega arith) (subst (EndsInTwo 108 101) is (rule-ends before)) (subst EndsInDigit (sym (append-nil report)) reported))
  says-by-rule before (Some p) is = by p.by_rule refl
    where
      by : (b : Bool) → p.by_rule ≡ b → (q : Priced) × (Some p ≡ Some q) × (q.by_rule ≡ true)
      by true e = (p, refl, e)
      by false e = absurd (not-in-digit 108 101 _ (omega arith)
          (subst (EndsInTwo 108 101) (is ∙ ap (λ (b : Bool). report ++ (codes "prices\n" ++ (lines p ++ (sum_line p first ++ rule_line b)))) e) (rule-ends before))
          (sum-ends p))
