-- The allocation of a point as a list of rising bidders.
use Rattle.std.proofs.Common.{◌≡◌, ℕ, zero, suc, ◌+◌, ◌<◌, ◌≤◌, Bool, true, false, ◌&&◌, ◌==◌, cond, List, [], ◌∷◌, ◌++◌}
use Rattle.std.proofs.Common.{Option, Some, None, Ok, refl, sym, ap, ap₂, subst, ◌∙◌, append_assoc, arith, length, map}
use Rattle.std.proofs.Common.{eqb-true, pos, drop, slice_get}
use Rattle.std.specs.Prelude.{sum_by, filter, nat_le, nat_lt}
use Rattle.std.specs.List.{AllByRecursion, range_with_len}
use Rattle.std.specs.Option.{option_map, option_to_list}
use Rattle.std.proofs.lemmas.Bool.{and_parts}
use Rattle.std.proofs.lemmas.Bool.Decides.{nat_tests}
use Rattle.std.proofs.lemmas.List.{append-nil}
use Rattle.std.proofs.lemmas.List.Sums.{sum_by-append, length-filter}
use Rattle.std.proofs.lemmas.List.Elements.{recursion_from_All, All-from_recursion, filter_passes}
use Rattle.auction_terms.specs.declared.bids.Choice.{Choice}
use Rattle.auction_terms.specs.declared.limits.TheConstants.{MOST_BIDDERS, MOST_BIDS}
use Rattle.auction_terms.specs.Allocations.{Book, amount_of, quantity_of, loads, is_eligible}
use Rattle.auction_terms.proofs.OfferFacts.{sum_zero, sum_agree, sum_plus, sum_filter, all_agree, all_append, all_filter}
use Rattle.program_rows.specs.Program.{Table, TableColumn}
use Rattle.program_rows.specs.Spelling.{column_bid, is_bid}
use Rattle.auction_terms.specs.Packages.{Lots, fits, left, worth}
use Rattle.auction_terms.specs.Keeping.{kept_of}
use Rattle.program_rows.specs.Rows.{program_of}
use Rattle.program_rows.specs.MpsMeaning.{meaning}
use Rattle.program_rows.specs.Faithful.{back, IsFaithful}
use Rattle.program_rows.proofs.FaithfulFacts.{presolved_is_faithful}
use Rattle.mps_text.specs.FaithfulText.{presolved_text}
use Rattle.mps_text.proofs.FaithfulTextFacts.{presolved_text_is_faithful}
use Rattle.program_rows.proofs.SpellingFacts.{reads_names_alone}
use Rattle.outcome.specs.PointAllocation.{allocation_of, IsMap, HasRisingBidders}
use Rattle.outcome.specs.inside.Winning.{by_bidder}
use Rattle.outcome.specs.Coming.{PointsComeBack, SolutionsComeBack, AnswersOfSolversComeBack}
use Rattle.outcome.proofs.PointFacts.{solutions_are_points}

-- a bidder that a name can spell
abbrev pub IsBidder : Choice → Type 0
IsBidder c = (1 ≤ c.bidder) × (c.bidder ≤ MOST_BIDDERS)

bidder_from : (b j : ℕ) → is_bid b j ≡ true → (1 ≤ b) × (b ≤ MOST_BIDDERS)
bidder_from b j e =
    let x = and_parts (nat_le 1 b && nat_le b MOST_BIDDERS) (nat_le 1 j && nat_le j MOST_BIDS) e in
    let y = and_parts (nat_le 1 b) (nat_le b MOST_BIDDERS) x.0 in
    (grind (arith, nat_tests), grind (arith, nat_tests))

named_bidder : (name : List ℕ) (o : Option Choice) → column_bid name ≡ o → AllByRecursion IsBidder (option_to_list o)
named_bidder name None e = tt
named_bidder name (Some c) e = (bidder_from c.bidder c.bid (reads_names_alone name c e).0, tt)

pub back_bidders : (columns : List TableColumn) (values : List Bool) → AllByRecursion IsBidder (back columns values)
back_bidders [] values = tt
back_bidders (c ∷ columns) [] = tt
back_bidders (c ∷ columns) (true ∷ values) = all_append IsBidder (option_to_list (column_bid c.name)) (back columns values)
    (named_bidder c.name (column_bid c.name) refl) (back_bidders columns values)
back_bidders (c ∷ columns) (false ∷ values) = back_bidders columns values

-- ---- sums don't depend on the order

abbrev is_between : ℕ → ℕ → ℕ → Bool
is_between s n b = nat_le s b && nat_lt b (s + n)

none_between : (s b v : ℕ) → cond (is_between s 0 b) v 0 ≡ 0
none_between s b v = grind (arith, nat_tests)

one_more_between : (s n b v : ℕ) → cond (is_between s (suc n) b) v 0 ≡ cond (b == s) v 0 + cond (is_between (s + 1) n b) v 0
one_more_between s n b v = grind (arith, nat_tests)

all_between : (b v : ℕ) → 1 ≤ b → b ≤ MOST_BIDDERS → cond (is_between 1 MOST_BIDDERS b) v 0 ≡ v
all_between b v low high = grind (arith, nat_tests)

sum_between : (f : Choice → ℕ) (choices : List Choice) (s n : ℕ)
    → sum_by f (by_bidder (range_with_len s n) choices) ≡ sum_by (λ c. cond (is_between s n c.bidder) (f c) 0) choices
sum_between f choices s zero = sym (sum_zero (λ c. cond (is_between s 0 c.bidder) (f c) 0) choices (λ c. none_between s c.bidder (f c)))
sum_between f choices s (suc n) =
    let one = filter (λ c. c.bidder == s) choices in
    let split = sum_by-append f one (by_bidder (range_with_len (s + 1) n) choices) in
    let here = sum_filter f (λ c. c.bidder == s) choices in
    let later = sum_between f choices (s + 1) n in
    let whole = sum_plus (λ c. cond (is_between s (suc n) c.bidder) (f c) 0) (λ c. cond (c.bidder == s) (f c) 0)
    (λ c. cond (is_between (s + 1) n c.bidder) (f c) 0) choices (λ c. one_more_between s n c.bidder (f c)) in
    omega arith

pub same_sum : (f : Choice → ℕ) (choices : List Choice) → AllByRecursion IsBidder choices
    → sum_by f (by_bidder (range_with_len 1 MOST_BIDDERS) choices) ≡ sum_by f choices
same_sum f choices h = sum_between f choices 1 MOST_BIDDERS
    ∙ sum_agree (λ c. cond (is_between 1 MOST_BIDDERS c.bidder) (f c) 0) f choices
    (all_agree IsBidder (λ c. cond (is_between 1 MOST_BIDDERS c.bidder) (f c) 0 ≡ f c) choices
    (λ c b. all_between c.bidder (f c) b.0 b.1) h)

pub same_each : (f g : ℕ → ℕ) → ((n : ℕ) → f n ≡ g n) → (ns : List ℕ) → map f ns ≡ map g ns
same_each f g each [] = refl
same_each f g each (n ∷ ns) = ap₂ (λ (x : ℕ) (xs : List ℕ). x ∷ xs) (each n) (same_each f g each ns)

pub same_loads : (lots : Lots) (book : Book) (choices : List Choice) → AllByRecursion IsBidder choices
    → loads lots book (by_bidder (range_with_len 1 MOST_BIDDERS) choices) ≡ loads lots book choices
same_loads lots book choices h = same_each (λ category. sum_by (quantity_of book category)
    (by_bidder (range_with_len 1 MOST_BIDDERS) choices)) (λ category. sum_by (quantity_of book category) choices)
    (λ category. same_sum (quantity_of book category) choices h) (range_with_len 0 (length lots.supply))

-- ---- what holds of all choices

all_by_bidder : (P : Choice → Type 0) (bidders : List ℕ) (choices : List Choice) → AllByRecursion P choices → AllByRecursion P (by_bidder bidders choices)
all_by_bidder P [] choices h = tt
all_by_bidder P (b ∷ bidders) choices h =
    let one = filter (λ c. c.bidder == b) choices in
    all_append P one (by_bidder bidders choices)
    (all_agree (λ c. P c × ((c.bidder == b) ≡ true)) P one (λ c e. e.0) (all_filter P (λ c. c.bidder == b) choices h))
    (all_by_bidder P bidders choices h)

-- ---- rising bidders

of_one : (s : ℕ) (choices : List Choice) → AllByRecursion (λ c. c.bidder ≡ s) (filter (λ c. c.bidder == s) choices)
of_one s choices = all_agree (λ c. (c.bidder == s) ≡ true) (λ c. c.bidder ≡ s) (filter (λ c. c.bidder == s) choices) (λ c e. eqb-true c.bidder s e)
    (recursion_from_All (λ c. (c.bidder == s) ≡ true) (filter (λ c. c.bidder == s) choices) (filter_passes (λ c. c.bidder == s) choices))

from_on : (choices : List Choice) (s n : ℕ) → AllByRecursion (λ c. s ≤ c.bidder) (by_bidder (range_with_len s n) choices)
from_on choices s zero = tt
from_on choices s (suc n) = all_append (λ c. s ≤ c.bidder) (filter (λ c. c.bidder == s) choices) (by_bidder (range_with_len (s + 1) n) choices)
    (all_agree (λ c. c.bidder ≡ s) (λ c. s ≤ c.bidder) (filter (λ c. c.bidder == s) choices) (λ c e. omega arith) (of_one s choices))
    (all_agree (λ c. s + 1 ≤ c.bidder) (λ c. s ≤ c.bidder) (by_bidder (range_with_len (s + 1) n) choices) (λ c e. omega arith) (from_on choices (s + 1) n))

one_then : (s : ℕ) (one more : List Choice) → length one ≤ 1 → AllByRecursion (λ c. c.bidder ≡ s) one
    → AllByRecursion (λ c. s + 1 ≤ c.bidder) more → HasRisingBidders more → HasRisingBidders (one ++ more)
one_then s [] more short h later rising = rising
one_then s (c ∷ []) more short h later rising =
    (all_agree (λ d. s + 1 ≤ d.bidder) (λ d. c.bidder < d.bidder) more (λ d e. let same = h.0 in omega arith) later, rising)
one_then s (c ∷ d ∷ one) more short h later rising = absurd (omega arith)

rises : (choices : List Choice) → IsMap choices → (s n : ℕ) → HasRisingBidders (by_bidder (range_with_len s n) choices)
rises choices map s zero = tt
rises choices map s (suc n) =
    let one = filter (λ c. c.bidder == s) choices in
    let size = length-filter (λ c. c.bidder == s) choices in
    let most = map s in
    one_then s one (by_bidder (range_with_len (s + 1) n) choices) (omega arith) (of_one s choices) (from_on choices (s + 1) n) (rises choices map (s + 1) n)

-- ---- coming back

pub points_come_back : PointsComeBack
points_come_back lots book group p values faithful point =
    let taken = back p.columns values in
    let inside = back_bidders p.columns values in
    let parsed = faithful.maps_back values point in
    let f = parsed.feasible in
    let loaded = same_loads lots book taken inside in
    record {
      map = f.one_bid_each;
      feasible = record {
        one_bid_each = λ b. let h = f.one_bid_each b in let e = same_sum (λ c. cond (c.bidder == b) 1 0) taken inside in omega arith;
        eligible = All-from_recursion _ (allocation_of p values) (all_by_bidder (λ c. is_eligible book group c ≡ true)
            (range_with_len 1 MOST_BIDDERS) taken (recursion_from_All _ taken f.eligible));
        fit = ap (fits lots) loaded ∙ f.fit;
      };
      same_total = ap pos (ap₂ (λ (amounts : ℕ) (q : List ℕ). amounts + worth lots (left lots.supply q))
          (same_sum (amount_of book) taken inside) loaded) ∙ parsed.same_total;
      rising = rises taken f.one_bid_each 1 MOST_BIDDERS;
    }

pub solutions_come_back : SolutionsComeBack
solutions_come_back lots book group solved values within parsed =
    let p = program_of lots (kept_of lots book group) in
    points_come_back lots book group p values (presolved_is_faithful lots book group within) (solutions_are_points p solved values parsed)

same_program : (p q : Table) (bytes : List ℕ) → meaning bytes ≡ Ok p → meaning bytes ≡ Ok q → p ≡ q
same_program p q bytes e f = cc

pub answers_of_solvers_come_back : AnswersOfSolversComeBack
answers_of_solvers_come_back lots book group p solved values limits within meant parsed =
    let faithful = presolved_text_is_faithful lots book group limits within in
    let same : faithful.program ≡ p = same_program faithful.program p (presolved_text lots book group) faithful.meant meant in
    points_come_back lots book group p values (subst (λ (q : Table). IsFaithful lots book group q) same faithful.faithful)
    (solutions_are_points p solved values parsed)

-- ---- one bidder more

pub by_bidder-more : (choices : List Choice) (s n : ℕ)
    → by_bidder (range_with_len s (n + 1)) choices ≡ by_bidder (range_with_len s n) choices ++ filter (λ c. c.bidder == s + n) choices
by_bidder-more choices s zero =
    let same : s + 0 ≡ s = omega arith in
    rw same (append-nil (filter (λ c. c.bidder == s) choices))
by_bidder-more choices s (suc n) =
    let next : suc n + 1 ≡ suc (n + 1) = omega arith in
    let same : s + suc n ≡ (s + 1) + n = omega arith in
    rw (next, same) (ap (λ (w : List Choice). filter (λ c. c.bidder == s) choices ++ w) (by_bidder-more choices (s + 1) n)
    ∙ sym (append_assoc (filter (λ c. c.bidder == s) choices) (by_bidder (range_with_len (s + 1) n) choices) (filter (λ c. c.bidder == (s + 1) + n) choices)))

pub rises_all : (choices : List Choice) → IsMap choices → HasRisingBidders (by_bidder (range_with_len 1 MOST_BIDDERS) choices)
rises_all choices map = rises choices map 1 MOST_BIDDERS

-- ---- one column more

-- the bid of the column at a place, and then those after it
pub back_at : (i : ℕ) (columns : List TableColumn) (values : List Bool) (v : Bool) (o : Option Choice) → slice_get values i ≡ Some v
    → option_map (λ c. column_bid c.name) (slice_get columns i) ≡ Some o
    → back (drop i columns) (drop i values) ≡ cond v (option_to_list o) [] ++ back (drop (suc i) columns) (drop (suc i) values)
back_at zero [] values v o e f = cc f
back_at zero (c ∷ columns) [] v o e f = cc e
back_at zero (c ∷ columns) (true ∷ values) true o e f = let bid : column_bid c.name ≡ o = cc in rw bid refl
back_at zero (c ∷ columns) (true ∷ values) false o e f = cc e
back_at zero (c ∷ columns) (false ∷ values) true o e f = cc e
back_at zero (c ∷ columns) (false ∷ values) false o e f = refl
back_at (suc i) [] values v o e f = cc f
back_at (suc i) (c ∷ columns) [] v o e f = cc e
back_at (suc i) (c ∷ columns) (w ∷ values) v o e f = back_at i columns values v o e f

pub back_skips : (i : ℕ) (columns : List TableColumn) (values : List Bool) → i < length columns → slice_get values i ≡ Some false
    → back (drop i columns) (drop i values) ≡ back (drop (suc i) columns) (drop (suc i) values)
back_skips i [] values l e = absurd (omega arith)
back_skips zero (c ∷ columns) [] l e = cc e
back_skips zero (c ∷ columns) (true ∷ values) l e = cc e
back_skips zero (c ∷ columns) (false ∷ values) l e = refl
back_skips (suc i) (c ∷ columns) [] l e = cc e
back_skips (suc i) (c ∷ columns) (w ∷ values) l e = back_skips i columns values (omega arith) e
