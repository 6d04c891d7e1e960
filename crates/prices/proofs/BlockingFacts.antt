-- Prices that no feasible allocation blocks suffice.
use Rattle.std.proofs.Common.{◌≡◌, ℕ, ◌+◌, ◌*◌, ◌≤◌, Bool, true, false, not, ◌==◌, cond, List, [], ◌∷◌, is_some, refl, sym, ap}
use Rattle.std.proofs.Common.{◌∙◌, arith, le_refl, ⊎_elim, eqb-true, eq-eqb, ℤ, pos, ◌+ℤ◌, ◌-ℤ◌, ◌≤ℤ◌}
use Rattle.std.specs.Prelude.{sum_by, count_by, filter, ◌*ℤ◌}
use Rattle.std.specs.List.{AllByRecursion}
use Rattle.std.proofs.lemmas.Bool.{and_parts, cases_Bool, cond-true, cond-false, false_from_ne_true, both_ways, not-true}
use Rattle.std.proofs.lemmas.Int.{ints}
use Rattle.std.proofs.lemmas.List.Filters.{sum_by-filter_both}
use Rattle.std.proofs.lemmas.List.Sums.{sum_by-cons}
use Rattle.std.proofs.Math.Nat.{mul-le-mul_left, le_of_mul-le-mul_left}
use Rattle.std.proofs.lemmas.List.Elements.{recursion_from_All, All-from_recursion}
use Rattle.auction_terms.specs.declared.bids.Choice.{Choice}
use Rattle.auction_terms.specs.Groups.{has}
use Rattle.auction_terms.specs.Packages.{Lots, left, worth}
use Rattle.auction_terms.specs.Allocations.{Book, form_of, bid_of, amount_of, loads, total, is_eligible, IsFeasible}
use Rattle.auction_terms.specs.Keeping.{is_kept_choice}
use Rattle.auction_terms.proofs.OfferFacts.{sum_zero, sum_plus, sum_filter, sum_agree, all_agree, all_filter}
use Rattle.auction_terms.proofs.PackageFacts.{keeps_the_best}
use Rattle.auction_terms.proofs.AllocationFacts.{IsGood, StandIn, good, stand_in_without, stand_in_with, stand_in_kept, stand_in_feasible, stand_in_total}
use Rattle.optimality.proofs.ProductFacts.{times-sum}
use Rattle.outcome.specs.Report.{amounts_of_group}
use Rattle.program_rows.proofs.EachFacts.{each}
use Rattle.outcome.specs.Pricing.{paid}
use Rattle.prices.specs.Blocking.{ArePrices, KeptBidsSuffice, UnblockedIsGreatest, UnblockedSuffice, gain, revenue, surplus, surplus_of}
use Rattle.prices.specs.Prices.{paid_by_group}
use Rattle.prices.proofs.WeightFacts.{nothing, spread}

-- ---------- sums over bidders ----------

-- nobody in the list is this bidder
none_of : (a : List Choice) (b n : ℕ) → count_by (λ c. c.bidder == b) a ≡ 0 → sum_by (λ c. cond (b == c.bidder) n 0) a ≡ 0
none_of [] b n h = refl
none_of (c ∷ a) b n h =
    let s : count_by (λ c. c.bidder == b) (c ∷ a) ≡ cond (c.bidder == b) 1 0 + count_by (λ c. c.bidder == b) a =
    sum_by-cons (λ (x : Choice). cond (x.bidder == b) 1 0) c a in
    let t : sum_by (λ c. cond (b == c.bidder) n 0) (c ∷ a) ≡ cond (b == c.bidder) n 0 + sum_by (λ c. cond (b == c.bidder) n 0) a =
    sum_by-cons (λ (x : Choice). cond (b == x.bidder) n 0) c a in
    let m : ℕ = cond (c.bidder == b) 1 0 in
    let differs : (b == c.bidder) ≡ false = false_from_ne_true (b == c.bidder) (λ e.
    let one : m ≡ 1 = cond-true (c.bidder == b) 1 0 (eq-eqb c.bidder b (sym (eqb-true b c.bidder e))) in
    omega arith) in
    let here : cond (b == c.bidder) n 0 ≡ 0 = cond-false (b == c.bidder) n 0 differs in
    let later = none_of a b n (omega arith) in
    omega arith

-- at most one in the list is this bidder
once_of : (a : List Choice) (b n : ℕ) → count_by (λ c. c.bidder == b) a ≤ 1 → sum_by (λ c. cond (b == c.bidder) n 0) a ≤ n
once_of [] b n h = omega arith
once_of (c ∷ a) b n h =
    let s : count_by (λ c. c.bidder == b) (c ∷ a) ≡ cond (c.bidder == b) 1 0 + count_by (λ c. c.bidder == b) a =
    sum_by-cons (λ (x : Choice). cond (x.bidder == b) 1 0) c a in
    let t : sum_by (λ c. cond (b == c.bidder) n 0) (c ∷ a) ≡ cond (b == c.bidder) n 0 + sum_by (λ c. cond (b == c.bidder) n 0) a =
    sum_by-cons (λ (x : Choice). cond (b == x.bidder) n 0) c a in
    let m : ℕ = cond (c.bidder == b) 1 0 in
    ⊎_elim
    (λ e.
    let one : m ≡ 1 = cond-true (c.bidder == b) 1 0 (eq-eqb c.bidder b (sym (eqb-true b c.bidder e))) in
    let here : cond (b == c.bidder) n 0 ≡ n = cond-true (b == c.bidder) n 0 e in
    let later = none_of a b n (omega arith) in
    omega arith)
    (λ e.
    let here : cond (b == c.bidder) n 0 ≡ 0 = cond-false (b == c.bidder) n 0 e in
    let later = once_of a b n (omega arith) in
    omega arith)
    (cases_Bool (b == c.bidder))

-- a bidder of the group isn't in a list of others
avoids : (group : List ℕ) (a : List Choice) (b : ℕ) → AllByRecursion (λ c. has group c.bidder ≡ false) a → has group b ≡ true
    → count_by (λ c. c.bidder == b) a ≡ 0
avoids group [] b h e = refl
avoids group (c ∷ a) b h e =
    let s : count_by (λ c. c.bidder == b) (c ∷ a) ≡ cond (c.bidder == b) 1 0 + count_by (λ c. c.bidder == b) a =
    sum_by-cons (λ (x : Choice). cond (x.bidder == b) 1 0) c a in
    let m : ℕ = cond (c.bidder == b) 1 0 in
    let differs : (c.bidder == b) ≡ false =
    false_from_ne_true (c.bidder == b) (λ t. both_ways (has group c.bidder) h.0 (ap (has group) (eqb-true c.bidder b t) ∙ e)) in
    let none : m ≡ 0 = cond-false (c.bidder == b) 1 0 differs in
    let later = avoids group a b h.1 e in
    omega arith

-- what is added for each of these bidders, by a measure of the first choices
abbrev pub added : (Choice → ℕ) → List Choice → Choice → ℕ
added f first c = sum_by (λ d. cond (d.bidder == c.bidder) (f d) 0) first

added_nothing : (f : Choice → ℕ) (c : Choice) → added f [] c ≡ 0
added_nothing f c = refl

module _ (group : List ℕ) (a : List Choice) (one : (b : ℕ) → count_by (λ c. c.bidder == b) a ≤ 1)
    (avoid : AllByRecursion (λ c. has group c.bidder ≡ false) a) (f : Choice → ℕ) where
  abbrev outer : Choice → ℕ
  outer d = cond (not (has group d.bidder)) (f d) 0

  -- each first choice outside the group at most once
  here_once : (d : Choice) → sum_by (λ c. cond (d.bidder == c.bidder) (f d) 0) a ≤ outer d
  here_once d = ⊎_elim
      (λ e.
      let t = none_of a d.bidder (f d) (avoids group a d.bidder avoid e) in
      omega arith)
      (λ e.
      let t = once_of a d.bidder (f d) (one d.bidder) in
      let u : outer d ≡ f d = ap (λ (b : Bool). cond (not b) (f d) 0) e in
      omega arith)
      (cases_Bool (has group d.bidder))

  pub exchange : (first : List Choice) → sum_by (added f first) a ≤ sum_by outer first
  exchange [] = let z = sum_zero (added f []) a (added_nothing f) in omega arith
  exchange (d ∷ first) =
      let s = sum_plus (added f (d ∷ first)) (λ c. cond (d.bidder == c.bidder) (f d) 0) (added f first) a
      (λ c. sum_by-cons (λ (x : Choice). cond (x.bidder == c.bidder) (f x) 0) d first) in
      let t : sum_by outer (d ∷ first) ≡ outer d + sum_by outer first = sum_by-cons outer d first in
      let here = here_once d in
      let later = exchange first in
      omega arith

-- ---------- amounts, prices and surpluses ----------

pub amounts_are : (parts : ℕ) (book : Book) (price : ℕ → ℕ) (a : List Choice) → AllByRecursion (λ c. price c.bidder ≤ parts * amount_of book c) a
    → parts * sum_by (amount_of book) a ≡ paid price a + sum_by (gain book parts price) a
amounts_are parts book price [] h = omega arith
amounts_are parts book price (c ∷ a) h =
    let s : parts * sum_by (amount_of book) (c ∷ a) ≡ parts * amount_of book c + parts * sum_by (amount_of book) a =
    ap (λ (n : ℕ). parts * n) (sum_by-cons (amount_of book) c a) ∙ spread parts (amount_of book c) (sum_by (amount_of book) a) in
    let t = sum_by-cons (λ (x : Choice). price x.bidder) c a in
    let u = sum_by-cons (gain book parts price) c a in
    let here = h.0 in
    let later = amounts_are parts book price a h.1 in
    omega arith

pub surplus_is : (parts : ℕ) (book : Book) (first : List Choice) (price : ℕ → ℕ) (a : List Choice)
    → surplus_of book first parts price a ≡ sum_by (added (gain book parts price) first) a
surplus_is parts book first price a = sum_agree (λ c. surplus book first parts price c.bidder) (added (gain book parts price) first) a
    (each _ a (λ c. sum_filter (gain book parts price) (λ d. d.bidder == c.bidder) first))

-- ---------- the laws ----------

pub parted : (group : List ℕ) (f : Choice → ℕ) (a : List Choice)
    → sum_by f (filter (λ c. has group c.bidder) a) + sum_by f (filter (λ c. not (has group c.bidder)) a) ≡ sum_by f a
parted group f a = sum_by-filter_both (λ c. has group c.bidder) (λ c. not (has group c.bidder)) (λ x. refl) f a

-- leaving nobody out allows at least as much
pub allowed : (lots : Lots) (book : Book) (group : List ℕ) (a : List Choice) → IsFeasible lots book (has group) a → IsFeasible lots book (λ b. false) a
allowed lots book group a f = record {
  one_bid_each = f.one_bid_each;
  eligible = All-from_recursion _ _ (all_agree (λ c. is_eligible book (has group) c ≡ true) (λ c. is_eligible book (λ b. false) c ≡ true) a
      (λ c e. (and_parts (not (has group c.bidder)) (is_some (bid_of book c)) e).1) (recursion_from_All _ a f.eligible));
  fit = f.fit;
}

pub outside : (lots : Lots) (book : Book) (group : List ℕ) (a : List Choice) → IsFeasible lots book (has group) a
    → AllByRecursion (λ c. has group c.bidder ≡ false) a
outside lots book group a f = all_agree (λ c. is_eligible book (has group) c ≡ true) (λ c. has group c.bidder ≡ false) a
    (λ c e. not-true (has group c.bidder) (and_parts (not (has group c.bidder)) (is_some (bid_of book c)) e).0)
    (recursion_from_All _ a f.eligible)

module _ (lots : Lots) (book : Book) (first : List Choice) (parts : ℕ) (price : ℕ → ℕ) (prices : ArePrices book first parts price) where
  -- what a group's winners pay, and the amounts and surpluses of the others
  pub parted_sums : (group : List ℕ) → paid price first + sum_by (λ c. cond (not (has group c.bidder)) (gain book parts price c) 0) first +
      parts * amounts_of_group book group first ≡ paid_by_group price group first + parts * sum_by (amount_of book) first
  parted_sums group =
      let outer : Choice → Bool = λ c. not (has group c.bidder) in
      let pays = parted group (λ c. price c.bidder) first in
      let gains = parted group (gain book parts price) first in
      let all = recursion_from_All (λ c. price c.bidder ≤ parts * amount_of book c) first prices in
      let whole = amounts_are parts book price first all in
      let others = sum_filter (gain book parts price) outer first in
      let inner = amounts_are parts book price (filter (λ c. has group c.bidder) first)
      (all_agree (λ c. (price c.bidder ≤ parts * amount_of book c) × (has group c.bidder ≡ true)) (λ c. price c.bidder ≤ parts * amount_of book c)
      (filter (λ c. has group c.bidder) first) (λ c e. e.0) (all_filter (λ c. price c.bidder ≤ parts * amount_of book c)
      (λ c. has group c.bidder) first all)) in
      omega arith

  -- of the surplus of an allocation without a group
  pub surplus_outside : (group : List ℕ) (a : List Choice) → IsFeasible lots book (has group) a
      → surplus_of book first parts price a ≤ sum_by (λ c. cond (not (has group c.bidder)) (gain book parts price c) 0) first
  surplus_outside group a f =
      let e = surplus_is parts book first price a in
      let l = exchange group a f.one_bid_each (outside lots book group a f) (gain book parts price) first in
      omega arith

pub times_difference : (parts w f g : ℕ) → pos parts *ℤ (pos w -ℤ (pos f -ℤ pos g)) ≡ pos (parts * w) -ℤ (pos (parts * f) -ℤ pos (parts * g))
times_difference parts w f g =
    let a = times-sum (pos parts) (pos w -ℤ (pos f -ℤ pos g)) (pos f) in
    let b = times-sum (pos parts) (pos w) (pos g) in
    let e : (pos w -ℤ (pos f -ℤ pos g)) +ℤ pos f ≡ pos w +ℤ pos g = omega (arith, ints) in
    let t : pos parts *ℤ ((pos w -ℤ (pos f -ℤ pos g)) +ℤ pos f) ≡ pos parts *ℤ (pos w +ℤ pos g) = ap (λ (z : ℤ). pos parts *ℤ z) e in
    omega (arith, ints)

covers_in : (parts w f g p r s n : ℕ) → parts * w ≤ r + s → s ≤ n → r + n + parts * g ≡ p + parts * f → (pos parts *ℤ (pos w -ℤ (pos f -ℤ pos g))) ≤ℤ pos p
covers_in parts w f g p r s n h k e = let t = times_difference parts w f g in omega (arith, ints)

pub unblocked_suffice : UnblockedSuffice
unblocked_suffice reserves lots book first parts price feasible some prices meet none = record {
  some = some;
  covers = λ group without best.
      let most = none without (allowed lots book group without best.feasible) in
      let within = surplus_outside lots book first parts price prices group without best.feasible in
      let sums = parted_sums lots book first parts price prices group in
      let unsold : ℕ = worth lots (left lots.supply (loads lots book first)) in
      let whole : parts * total lots book first ≡ parts * sum_by (amount_of book) first + parts * unsold = spread parts (sum_by (amount_of book) first) unsold in
      covers_in parts (total lots book without) (total lots book first) (amounts_of_group book group first) (paid_by_group price group first)
      (revenue lots book first parts price) (surplus_of book first parts price without)
      (sum_by (λ c. cond (not (has group c.bidder)) (gain book parts price c) 0) first) most within (omega arith);
  meet = meet;
}

-- nobody is in the empty group
nobody_has : (f : Choice → ℕ) (a : List Choice) → sum_by f (filter (λ c. has [] c.bidder) a) ≡ 0
nobody_has f [] = refl
nobody_has f (c ∷ a) = nobody_has f a

no_less : (parts t f n r s : ℕ) → 1 ≤ parts → parts * t ≤ r + s → s ≤ n → r + n ≡ parts * f → t ≤ f
no_less parts t f n r s some most within sums =
    let scaled : parts * t ≤ parts * f = omega arith in
    le_of_mul-le-mul_left scaled some

pub unblocked_is_greatest : UnblockedIsGreatest
unblocked_is_greatest lots book first parts price feasible some prices none = record {
  feasible = feasible;
  greatest = λ other f.
      let most = none other f in
      let within = surplus_outside lots book first parts price prices [] other f in
      let sums = parted_sums lots book first parts price prices [] in
      let amounts : amounts_of_group book [] first ≡ 0 = nobody_has (amount_of book) first in
      let nothing_of : parts * amounts_of_group book [] first ≡ 0 = ap (λ (n : ℕ). parts * n) amounts ∙ nothing parts in
      let pays : paid_by_group price [] first ≡ 0 = nobody_has (λ c. price c.bidder) first in
      let unsold : ℕ = worth lots (left lots.supply (loads lots book first)) in
      let whole : parts * total lots book first ≡ parts * sum_by (amount_of book) first + parts * unsold = spread parts (sum_by (amount_of book) first) unsold in
      no_less parts (total lots book other) (total lots book first) (sum_by (λ c. cond (not (has [] c.bidder)) (gain book parts price c) 0) first)
      (revenue lots book first parts price) (surplus_of book first parts price other) some most within (omega arith);
}

-- ---------- kept bids ----------

module _ (lots : Lots) (book : Book) (s : ℕ → ℕ) where
  -- kept bids in the place of others, of the same bidders or fewer
  pub record Instead (a : List Choice) : Type 0 where
    pub choices : List Choice
    pub kept : AllByRecursion (λ c. is_kept_choice lots book (λ b. false) c ≡ true) choices
    pub stand_in : StandIn lots book (λ b. false) a choices
    pub no_more : sum_by (λ c. s c.bidder) choices ≤ sum_by (λ c. s c.bidder) a

  pub instead : (a : List Choice) → AllByRecursion (IsGood lots book (λ b. false)) a → Instead a
  instead [] h = record {
    choices = [];
    kept = tt;
    stand_in = record {
      fewer = λ b. le_refl 0;
      eligible = tt;
      no_cheaper = le_refl 0;
      lighter = λ category. le_refl 0;
    };
    no_more = le_refl 0;
  }
  instead (c ∷ a) h =
      let g = h.0 in
      let r = instead a h.1 in
      let t : sum_by (λ c. s c.bidder) (c ∷ a) ≡ s c.bidder + sum_by (λ c. s c.bidder) a = sum_by-cons (λ (x : Choice). s x.bidder) c a in
      let less = r.no_more in
      ⊎_elim
      (λ low. record {
        choices = r.choices;
        kept = r.kept;
        stand_in = stand_in_without lots book (λ b. false) c a r.choices g low
            r.stand_in;
        no_more = omega arith;
      })
      (λ k.
      let d : Choice = record { bidder = c.bidder; bid = k.number } in
      let u : sum_by (λ c. s c.bidder) (d ∷ r.choices) ≡ s c.bidder + sum_by (λ c. s c.bidder) r.choices =
      sum_by-cons (λ (x : Choice). s x.bidder) d r.choices in
      record {
        choices = d ∷ r.choices;
        kept = (stand_in_kept lots book (λ b. false) c g k, r.kept);
        stand_in = stand_in_with lots book (λ b. false) c a r.choices g k r.stand_in;
        no_more = omega arith;
      })
      (keeps_the_best lots (form_of book c.bidder) c.bid g.bid g.stands g.fits)

pub kept_bids_suffice : KeptBidsSuffice
kept_bids_suffice lots book first parts price sized of_kept a f =
    let r = instead lots book (surplus book first parts price) a (recursion_from_All (IsGood lots book (λ b. false)) a (good lots book (λ b. false) sized a f)) in
    let most = of_kept r.choices (stand_in_feasible lots book (λ b. false) a r.choices f r.stand_in) (All-from_recursion _ r.choices r.kept) in
    let low : parts * total lots book a ≤ parts * total lots book r.choices =
    mul-le-mul_left parts (stand_in_total lots book (λ b. false) a r.choices sized f r.stand_in) in
    let less = r.no_more in
    omega arith
