-- There is an allocation of greatest total without any group, and so no allocation blocks prices that suffice.
use Rattle.std.proofs.Common.{◌≡◌, ℕ, zero, suc, ◌+◌, ◌*◌, ◌≤◌, Bool, true, false, not, ◌&&◌, ◌||◌, ◌==◌, cond, List, [], ◌∷◌}
use Rattle.std.proofs.Common.{is_some, length, refl, sym, ap, ◌∙◌, arith, ⊎_elim, inl, inr, le_refl, eqb-true, eq-eqb, ℤ}
use Rattle.std.proofs.Common.{pos, ◌-ℤ◌, ◌≤ℤ◌}
use Rattle.std.specs.Prelude.{sum_by, ◌⊎◌, ◌*ℤ◌}
use Rattle.std.specs.List.{AllByRecursion, enumerate_from, list_all, list_any}
use Rattle.std.proofs.lemmas.Bool.{and_from, and_parts, both_ways, cases_Bool, cond-true, cond-false, cond_both}
use Rattle.std.proofs.lemmas.Bool.{false_from_ne_true, not_from_false, or_from, or_left, or_right}
use Rattle.std.proofs.lemmas.Int.{ints, by_lt_z}
use Rattle.std.proofs.Math.Nat.{mul-le-mul_left}
use Rattle.std.proofs.lemmas.List.Sums.{sum_by-cons}
use Rattle.std.proofs.lemmas.List.Elements.{recursion_from_All, All-from_recursion, All-nil}
use Rattle.auction_terms.specs.declared.bids.Choice.{Choice}
use Rattle.auction_terms.specs.Groups.{has}
use Rattle.auction_terms.specs.Packages.{Lots, left, worth}
use Rattle.auction_terms.specs.Allocations.{Book, amount_of, bid_of, loads, total, is_eligible, IsFeasible, IsSized}
use Rattle.auction_terms.specs.Keeping.{kept_of}
use Rattle.auction_terms.specs.Limits.{IsBook}
use Rattle.auction_terms.proofs.AllocationFacts.{feasible_from}
use Rattle.auction_terms.proofs.LimitFacts.{sized}
use Rattle.auction_terms.proofs.OfferFacts.{all_agree, sum_plus}
use Rattle.outcome.specs.Report.{amounts_of_group}
use Rattle.program_rows.specs.Program.{Table, TableRow, TableColumn}
use Rattle.program_rows.specs.Points.{AreAllowed, IsPoint, allows, meets, objective, row_sum}
use Rattle.program_rows.specs.Rows.{program_of}
use Rattle.program_rows.specs.Faithful.{IsGreatest, back}
use Rattle.program_rows.proofs.FaithfulFacts.{least_is_greatest, presolved_is_faithful}
use Rattle.optimality.proofs.ColumnSumFacts.{allowed-length}
use Rattle.prices.specs.Blocking.{ArePrices, NoneBlocks, SufficeIffNoneBlocks, gain, revenue, surplus_of}
use Rattle.prices.specs.Parts.{Suffice}
use Rattle.prices.specs.Prices.{EveryGroupHasACost, paid_by_group}
use Rattle.prices.proofs.BlockingFacts.{added, parted_sums, surplus_is, times_difference, unblocked_suffice}
use Rattle.prices.proofs.WeightFacts.{spread}

-- ---------- the least of finitely many values ----------

pub record Least (n : ℕ) (test : List Bool → Bool) (cost : List Bool → ℤ) : Type 0 where
  pub values : List Bool
  pub sized : length values ≡ n
  pub passes : test values ≡ true
  pub least : (others : List Bool) → length others ≡ n → test others ≡ true → cost values ≤ℤ cost others

abbrev pub NonePasses : ℕ → (List Bool → Bool) → Type 0
NonePasses n test = (values : List Bool) → length values ≡ n → test values ≡ false

-- no list, or the least one, of those with this first value, and with the other
module _ (n : ℕ) (test : List Bool → Bool) (cost : List Bool → ℤ) where
  first_value : (values : List Bool) → length values ≡ suc n → (P : List Bool → Type 0)
      → ((more : List Bool) → length more ≡ n → P (true ∷ more)) → ((more : List Bool) → length more ≡ n → P (false ∷ more)) → P values
  first_value [] e P f g = absurd (omega arith)
  first_value (true ∷ more) e P f g = f more (omega arith)
  first_value (false ∷ more) e P f g = g more (omega arith)

  neither : NonePasses n (λ v. test (true ∷ v)) → NonePasses n (λ v. test (false ∷ v)) → NonePasses (suc n) test
  neither a b values e = first_value values e (λ v. test v ≡ false) a b

  one_side : (b : Bool) (l : Least n (λ v. test (b ∷ v)) (λ v. cost (b ∷ v)))
      → ((others : List Bool) → length others ≡ suc n → test others ≡ true → cost (b ∷ l.values) ≤ℤ cost others) → Least (suc n) test cost
  one_side b l h = record { values = b ∷ l.values; sized = ap suc l.sized; passes = l.passes; least = h }

  only_true : Least n (λ v. test (true ∷ v)) (λ v. cost (true ∷ v)) → NonePasses n (λ v. test (false ∷ v)) → Least (suc n) test cost
  only_true l none = one_side true l (λ others e. first_value others e (λ v. test v ≡ true → cost (true ∷ l.values) ≤ℤ cost v) l.least
      (λ more m p. absurd (both_ways (test (false ∷ more)) (none more m) p)))

  only_false : NonePasses n (λ v. test (true ∷ v)) → Least n (λ v. test (false ∷ v)) (λ v. cost (false ∷ v)) → Least (suc n) test cost
  only_false none l = one_side false l (λ others e. first_value others e (λ v. test v ≡ true → cost (false ∷ l.values) ≤ℤ cost v)
      (λ more m p. absurd (both_ways (test (true ∷ more)) (none more m) p)) l.least)

  both_sides : Least n (λ v. test (true ∷ v)) (λ v. cost (true ∷ v)) → Least n (λ v. test (false ∷ v)) (λ v. cost (false ∷ v)) → Least (suc n) test cost
  both_sides l r = by_lt_z (cost (true ∷ l.values)) (cost (false ∷ r.values))
      (λ less. one_side true l (λ others e. first_value others e (λ v. test v ≡ true → cost (true ∷ l.values) ≤ℤ cost v) l.least
      (λ more m p. let h = r.least more m p in omega (arith, ints))))
      (λ more_or_same. one_side false r (λ others e. first_value others e (λ v. test v ≡ true → cost (false ∷ r.values) ≤ℤ cost v)
      (λ more m p. let h = l.least more m p in omega (arith, ints)) r.least))

no_other : (test : List Bool → Bool) (others : List Bool) → length others ≡ zero → test [] ≡ false → test others ≡ false
no_other test [] e h = h
no_other test (v ∷ others) e h = absurd (omega arith)

none_longer : (cost : List Bool → ℤ) (others : List Bool) → length others ≡ zero → cost [] ≤ℤ cost others
none_longer cost [] e = omega (arith, ints)
none_longer cost (v ∷ others) e = absurd (omega arith)

pub least_of : (n : ℕ) (test : List Bool → Bool) (cost : List Bool → ℤ) → NonePasses n test ⊎ Least n test cost
least_of zero test cost = ⊎_elim
    (λ passes. inr (record { values = []; sized = refl; passes = passes; least = λ others s p. none_longer cost others s }))
    (λ fails. inl (λ others s. no_other test others s fails))
    (cases_Bool (test []))
least_of (suc n) test cost = ⊎_elim
    (λ none. ⊎_elim (λ none'. inl (neither n test cost none none')) (λ l. inr (only_false n test cost none l))
    (least_of n (λ v. test (false ∷ v)) (λ v. cost (false ∷ v))))
    (λ l. ⊎_elim (λ none. inr (only_true n test cost l none)) (λ r. inr (both_sides n test cost l r))
    (least_of n (λ v. test (false ∷ v)) (λ v. cost (false ∷ v))))
    (least_of n (λ v. test (true ∷ v)) (λ v. cost (true ∷ v)))

-- ---------- points, as a test ----------

abbrev is_allowed : List TableColumn → List Bool → Bool
is_allowed [] [] = true
is_allowed [] (v ∷ vs) = false
is_allowed (c ∷ cs) [] = false
is_allowed (c ∷ cs) (v ∷ vs) = allows c.bounds v && is_allowed cs vs

abbrev is_met : Table → List Bool → ℕ × TableRow → Bool
is_met p vs r = meets r.1.kind (row_sum p vs r.0) r.1.right_side

abbrev pub is_point : Table → List Bool → Bool
is_point p vs = is_allowed p.columns vs && list_all (is_met p vs) (enumerate_from 0 p.rows)

allowed_test : (cs : List TableColumn) (vs : List Bool) → AreAllowed cs vs → is_allowed cs vs ≡ true
allowed_test [] [] h = refl
allowed_test (c ∷ cs) (v ∷ vs) h = and_from (allows c.bounds v) (is_allowed cs vs) h.0 (allowed_test cs vs h.1)
allowed_test _ _ h = absurd h

test_allowed : (cs : List TableColumn) (vs : List Bool) → is_allowed cs vs ≡ true → AreAllowed cs vs
test_allowed [] [] h = tt
test_allowed [] (v ∷ vs) h = absurd (both_ways false refl h)
test_allowed (c ∷ cs) [] h = absurd (both_ways false refl h)
test_allowed (c ∷ cs) (v ∷ vs) h = let e = and_parts (allows c.bounds v) (is_allowed cs vs) h in (e.0, test_allowed cs vs e.1)

all_test : {X : Type 0} (f : X → Bool) (xs : List X) → AllByRecursion (λ x. f x ≡ true) xs → list_all f xs ≡ true
all_test f [] h = refl
all_test f (x ∷ xs) h = and_from (f x) (list_all f xs) h.0 (all_test f xs h.1)

test_all : {X : Type 0} (f : X → Bool) (xs : List X) → list_all f xs ≡ true → AllByRecursion (λ x. f x ≡ true) xs
test_all f [] h = tt
test_all f (x ∷ xs) h = let e = and_parts (f x) (list_all f xs) h in (e.0, test_all f xs e.1)

point_passes : (p : Table) (vs : List Bool) → IsPoint p vs → is_point p vs ≡ true
point_passes p vs h = and_from (is_allowed p.columns vs) (list_all (is_met p vs) (enumerate_from 0 p.rows))
    (allowed_test p.columns vs h.allowed) (all_test (is_met p vs) (enumerate_from 0 p.rows) h.met)

passes_point : (p : Table) (vs : List Bool) → is_point p vs ≡ true → IsPoint p vs
passes_point p vs h =
    let e = and_parts (is_allowed p.columns vs) (list_all (is_met p vs) (enumerate_from 0 p.rows)) h in
    record { allowed = test_allowed p.columns vs e.0; met = test_all (is_met p vs) (enumerate_from 0 p.rows) e.1 }

-- ---------- an allocation of greatest total ----------

pub there_is_a_greatest : (lots : Lots) (book : Book) (group : ℕ → Bool) → IsBook lots book → (a : List Choice)
    → IsFeasible lots book group a → (w : List Choice) × IsGreatest lots book group w
there_is_a_greatest lots book group within a f =
    let p = program_of lots (kept_of lots book group) in
    let faithful = presolved_is_faithful lots book group within in
    let m = faithful.is_matched a f in
    ⊎_elim
    (λ none. absurd (both_ways (is_point p m.values) (none m.values (allowed-length p.columns m.values m.is_point.allowed))
    (point_passes p m.values m.is_point)))
    (λ l. (
      back p.columns l.values,
      least_is_greatest lots book group p faithful l.values (passes_point p l.values
          l.passes) (λ others there. l.least others (allowed-length p.columns others there.allowed) (point_passes p others there)),
    ))
    (least_of (length p.columns) (is_point p) (objective p))

-- nobody wins anything
nothing_won : (lots : Lots) (book : Book) (group : ℕ → Bool) → IsSized lots book → IsFeasible lots book group []
nothing_won lots book group sized = record {
  one_bid_each = λ b. omega arith;
  eligible = All-nil (λ c. is_eligible book group c ≡ true);
  fit = feasible_from lots book [] sized (λ category below. omega arith) (λ p below. omega arith);
}

pub every_group_has_a_cost : EveryGroupHasACost
every_group_has_a_cost lots book group within = there_is_a_greatest lots book (has group) within [] (nothing_won lots book (has group) (sized lots book within))

-- ---------- the first choices' bidders that an allocation leaves out ----------

abbrev occurs : List Choice → ℕ → Bool
occurs a b = list_any (λ c. c.bidder == b) a

abbrev missing : List Choice → List Choice → List ℕ
missing a [] = []
missing a (d ∷ first) = cond (occurs a d.bidder) (missing a first) (d.bidder ∷ missing a first)

-- who is in the allocation isn't missing
not_missing : (a first : List Choice) (b : ℕ) → occurs a b ≡ true → has (missing a first) b ≡ false
not_missing a [] b h = refl
not_missing a (d ∷ first) b h =
    let later = not_missing a first b h in
    cond_both (occurs a d.bidder) (missing a first) (d.bidder ∷ missing a first) (λ g. has g b ≡ false)
    (λ e. later)
    (λ e. or_from (d.bidder == b) (has (missing a first) b) (false_from_ne_true (d.bidder == b)
    (λ t. both_ways (occurs a d.bidder) e (ap (occurs a) (eqb-true d.bidder b t) ∙ h))) later)

still_missing : (a : List Choice) (d : Choice) (first : List Choice) (b : ℕ) → has (missing a first) b ≡ true → has (missing a (d ∷ first)) b ≡ true
still_missing a d first b h = cond_both (occurs a d.bidder) (missing a first) (d.bidder ∷ missing a first) (λ g. has g b ≡ true) (λ e. h)
    (λ e. or_right (d.bidder == b) (has (missing a first) b) h)

-- who is of the first choices, and not in the allocation, is missing
are_missing : (a first : List Choice) → AllByRecursion (λ d. occurs a d.bidder ≡ false → has (missing a first) d.bidder ≡ true) first
are_missing a [] = tt
are_missing a (d ∷ first) = (
  λ e. ap (λ (g : List ℕ). has g d.bidder) (cond-false (occurs a d.bidder) (missing a first) (d.bidder ∷ missing a first) e)
      ∙ or_left (d.bidder == d.bidder) (has (missing a first) d.bidder) (eq-eqb d.bidder d.bidder refl),
  all_agree (λ x. occurs a x.bidder ≡ false → has (missing a first) x.bidder ≡ true)
      (λ x. occurs a x.bidder ≡ false → has (missing a (d ∷ first)) x.bidder ≡ true) first (λ x h e. still_missing a d first x.bidder (h e))
      (are_missing a first),
)

occur : (a : List Choice) → AllByRecursion (λ c. occurs a c.bidder ≡ true) a
occur [] = tt
occur (c ∷ a) = (
  or_left (c.bidder == c.bidder) (occurs a c.bidder) (eq-eqb c.bidder c.bidder refl),
  all_agree (λ x. occurs a x.bidder ≡ true) (λ x. occurs (c ∷ a) x.bidder ≡ true) a (λ x h. or_right (c.bidder == x.bidder) (occurs a x.bidder) h) (occur a),
)

-- the term of a bidder in the list is added
found : (a : List Choice) (b n : ℕ) → cond (occurs a b) n 0 ≤ sum_by (λ c. cond (b == c.bidder) n 0) a
found [] b n = omega arith
found (c ∷ a) b n =
    let t : sum_by (λ c. cond (b == c.bidder) n 0) (c ∷ a) ≡ cond (b == c.bidder) n 0 + sum_by (λ c. cond (b == c.bidder) n 0) a =
    sum_by-cons (λ (x : Choice). cond (b == x.bidder) n 0) c a in
    let later = found a b n in
    ⊎_elim
    (λ e.
    let here : cond (b == c.bidder) n 0 ≡ n = cond-true (b == c.bidder) n 0 (eq-eqb b c.bidder (sym (eqb-true c.bidder b e))) in
    let is : cond (occurs (c ∷ a) b) n 0 ≡ n = cond-true (occurs (c ∷ a) b) n 0 (or_left (c.bidder == b) (occurs a b) e) in
    omega arith)
    (λ e.
    let is : cond (occurs (c ∷ a) b) n 0 ≡ cond (occurs a b) n 0 = ap (λ (t : Bool). cond (t || occurs a b) n 0) e in
    omega arith)
    (cases_Bool (c.bidder == b))

exchange_back : (a : List Choice) (f : Choice → ℕ) (first : List Choice) → sum_by (λ d. cond (occurs a d.bidder) (f d) 0) first ≤ sum_by (added f first) a
exchange_back a f [] = omega arith
exchange_back a f (d ∷ first) =
    let s = sum_plus (added f (d ∷ first)) (λ c. cond (d.bidder == c.bidder) (f d) 0) (added f first) a
    (λ c. sum_by-cons (λ (x : Choice). cond (x.bidder == c.bidder) (f x) 0) d first) in
    let t : sum_by (λ d. cond (occurs a d.bidder) (f d) 0) (d ∷ first)
    ≡ cond (occurs a d.bidder) (f d) 0 + sum_by (λ d. cond (occurs a d.bidder) (f d) 0) first = sum_by-cons
    (λ (x : Choice). cond (occurs a x.bidder) (f x) 0) d first in
    let here = found a d.bidder (f d) in
    let later = exchange_back a f first in
    omega arith

sums_at_most : (f g : Choice → ℕ) (xs : List Choice) → AllByRecursion (λ x. f x ≤ g x) xs → sum_by f xs ≤ sum_by g xs
sums_at_most f g [] h = omega arith
sums_at_most f g (x ∷ xs) h =
    let s = sum_by-cons f x xs in
    let t = sum_by-cons g x xs in
    let here = h.0 in
    let later = sums_at_most f g xs h.1 in
    omega arith

outer_is : (a : List Choice) (group : List ℕ) (f : Choice → ℕ) (d : Choice) → (occurs a d.bidder ≡ false → has group d.bidder ≡ true)
    → cond (not (has group d.bidder)) (f d) 0 ≤ cond (occurs a d.bidder) (f d) 0
outer_is a group f d h = ⊎_elim
    (λ e.
    let is : cond (occurs a d.bidder) (f d) 0 ≡ f d = cond-true (occurs a d.bidder) (f d) 0 e in
    let low : cond (not (has group d.bidder)) (f d) 0 ≤ f d =
    cond_both (not (has group d.bidder)) (f d) 0 (λ n. n ≤ f d) (λ _. le_refl (f d)) (λ _. omega arith) in
    omega arith)
    (λ e.
    let is : cond (not (has group d.bidder)) (f d) 0 ≡ 0 = ap (λ (t : Bool). cond (not t) (f d) 0) (h e) in
    omega arith)
    (cases_Bool (occurs a d.bidder))

-- ---------- the law ----------

all_both : (xs : List Choice) (P Q R : Choice → Type 0) → ((x : Choice) → P x → Q x → R x) → AllByRecursion P xs → AllByRecursion Q xs → AllByRecursion R xs
all_both [] P Q R f p q = tt
all_both (x ∷ xs) P Q R f p q = (f x p.0 q.0, all_both xs P Q R f p.1 q.1)

without_missing : (lots : Lots) (book : Book) (first a : List Choice) → IsFeasible lots book (λ b. false) a → IsFeasible lots book (has (missing a first)) a
without_missing lots book first a f = record {
  one_bid_each = f.one_bid_each;
  eligible = All-from_recursion _ a (all_both a (λ c. occurs a c.bidder ≡ true) (λ c. is_eligible book (λ b. false) c ≡ true)
      (λ c. is_eligible book (has (missing a first)) c ≡ true)
      (λ c here e. and_from (not (has (missing a first) c.bidder)) (is_some (bid_of book c))
      (not_from_false (has (missing a first) c.bidder) (not_missing a first c.bidder here)) e)
      (occur a) (recursion_from_All _ a f.eligible));
  fit = f.fit;
}

blocked_by : (parts t w f g p r n m : ℕ) → t ≤ w → (pos parts *ℤ (pos w -ℤ (pos f -ℤ pos g))) ≤ℤ pos p → r + n + parts * g ≡ p + parts * f → n ≤ m → parts * t ≤ r + m
blocked_by parts t w f g p r n m low cost sums more =
    let e = times_difference parts w f g in
    let scaled : parts * t ≤ parts * w = mul-le-mul_left parts low in
    omega (arith, ints)

pub sufficing_leaves_none : (reserves : List ℕ) (lots : Lots) (book : Book) (first : List Choice) (parts : ℕ) (price : ℕ → ℕ) → IsBook lots book
    → ArePrices book first parts price → Suffice reserves lots book first parts price → NoneBlocks lots book first parts price
sufficing_leaves_none reserves lots book first parts price within prices suffice a f =
    let group = missing a first in
    let outer : Choice → ℕ = λ d. cond (not (has group d.bidder)) (gain book parts price d) 0 in
    let here = without_missing lots book first a f in
    let best = there_is_a_greatest lots book (has group) within a here in
    let low = best.1.greatest a here in
    let costs = suffice.covers group best.0 best.1 in
    let sums = parted_sums lots book first parts price prices group in
    let small = sums_at_most outer (λ d. cond (occurs a d.bidder) (gain book parts price d) 0) first
    (all_agree (λ d. occurs a d.bidder ≡ false → has group d.bidder ≡ true)
    (λ d. outer d ≤ cond (occurs a d.bidder) (gain book parts price d) 0) first (λ d h. outer_is a group (gain book parts price) d h)
    (are_missing a first)) in
    let back = exchange_back a (gain book parts price) first in
    let e = surplus_is parts book first price a in
    let unsold : ℕ = worth lots (left lots.supply (loads lots book first)) in
    let whole : parts * total lots book first ≡ parts * sum_by (amount_of book) first + parts * unsold = spread parts (sum_by (amount_of book) first) unsold in
    blocked_by parts (total lots book a) (total lots book best.0) (total lots book first) (amounts_of_group book group first)
    (paid_by_group price group first) (revenue lots book first parts price) (sum_by outer first) (surplus_of book first parts price a)
    low costs (omega arith) (omega arith)

pub suffice_iff_none_blocks : SufficeIffNoneBlocks
suffice_iff_none_blocks reserves lots book first parts price within feasible some prices meet =
    (sufficing_leaves_none reserves lots book first parts price within prices, unblocked_suffice reserves lots book first parts price feasible some prices meet)
