-- What ties, and what an only allocation settles.
use Rattle.std.proofs.Common.{◌≡◌, ℕ, ◌+◌, ◌<◌, ◌≤◌, Bool, true, false, ◌&&◌, ◌==◌, cond, List, [], ◌∷◌, refl, sym, ap, ap₂}
use Rattle.std.proofs.Common.{◌∙◌, arith, ⊎_elim, eqb-true, eq-eqb, pos, ◌-ℤ◌}
use Rattle.std.specs.Prelude.{IsPermutation, count_by}
use Rattle.std.specs.List.{AllByRecursion}
use Rattle.std.proofs.lemmas.Bool.{and_from, and_parts, both_ways, cases_Bool, cases_lt, cases_order}
use Rattle.std.proofs.lemmas.Bool.Decides.{nat_tests}
use Rattle.std.proofs.lemmas.List.Sorted.{sum_by-IsPermutation}
use Rattle.std.proofs.lemmas.List.Sums.{sum_by-cons}
use Rattle.auction_terms.specs.declared.bids.Choice.{Choice}
use Rattle.auction_terms.specs.Groups.{has}
use Rattle.auction_terms.specs.Packages.{Lots}
use Rattle.auction_terms.specs.Allocations.{Book, amount_of, total, IsFeasible}
use Rattle.auction_terms.specs.Only.{IsOnly}
use Rattle.auction_terms.proofs.OfferFacts.{sum_filter, all_agree}
use Rattle.auction_terms.proofs.PermutedFacts.{total_permuted}
use Rattle.program_rows.specs.Faithful.{IsGreatest}
use Rattle.outcome.specs.PointAllocation.{HasRisingBidders, is_choice}
use Rattle.outcome.specs.Report.{amounts_of_group, cost}
use Rattle.outcome.specs.Ties.{IsTie, TheOnlyIsGreatest, OnlyFirstSettlesCosts, OnlyFirstTellsCosts, OthersDiffer, OthersTie, same_choices}
use Rattle.outcome.proofs.CostFacts.{costs_are_own}

-- ---- the order of choices doesn't matter

same_amounts : (book : Book) (group : List ℕ) (a b : List Choice) → IsPermutation a b → amounts_of_group book group b ≡ amounts_of_group book group a
same_amounts book group a b p =
    let inside : Choice → Bool = λ c. has group c.bidder in
    sum_filter (amount_of book) inside b
    ∙ sum_by-IsPermutation (λ (c : Choice). cond (inside c) (amount_of book c) 0) a b p
    ∙ sym (sum_filter (amount_of book) inside a)

-- ---- the only one

pub the_only_is_greatest : TheOnlyIsGreatest
the_only_is_greatest lots book group a only = record {
  feasible = only.feasible;
  greatest = λ other f. ⊎_elim
      (λ high. let e = total_permuted lots book a other (only.only other f (omega arith)) in omega arith)
      (λ low. low)
      (cases_lt (total lots book a) (total lots book other));
}

-- the first ones have the same choices, and those without the group have the same total
module _ (lots : Lots) (book : Book) (group : List ℕ) (first : List Choice) (only : IsOnly lots book (λ b. false) first) where
  pub same_first : (first' : List Choice) → IsGreatest lots book (λ b. false) first' → IsPermutation first first'
  same_first first' best = only.only first' best.feasible (best.greatest first only.feasible)

  pub same_cost : (first' a a' : List Choice) → IsGreatest lots book (λ b. false) first' → IsGreatest lots book (has group) a
      → IsGreatest lots book (has group) a'
      → cost lots book first group a ≡ cost lots book first' group a'
  same_cost first' a a' best without without' =
      let same = same_first first' best in
      let whole = sym (total_permuted lots book first first' same) in
      let own = sym (same_amounts book group first first' same) in
      let low = without.greatest a' without'.feasible in
      let high = without'.greatest a without.feasible in
      let part : total lots book a ≡ total lots book a' = omega arith in
      ap₂ (λ (t g : ℕ). pos t -ℤ (pos (total lots book first) -ℤ pos g)) part own
      ∙ ap (λ (f : ℕ). pos (total lots book a') -ℤ (pos f -ℤ pos (amounts_of_group book group first'))) whole

pub only_first_settles_costs : OnlyFirstSettlesCosts
only_first_settles_costs lots book group first first' a a' only best without without' =
    (same_first lots book group first only first' best, same_cost lots book group first only first' a a' best without without')

pub only_first_tells_costs : OnlyFirstTellsCosts
only_first_tells_costs lots book group first of_all less only reached_by_all reached_less first' a best without =
    let here = the_only_is_greatest lots book (λ b. false) first only in
    sym (same_cost lots book group first only first' a a best without without)
    ∙ costs_are_own lots book group first a of_all less reached_by_all reached_less here without

-- ---- ties

-- another of the same total
tie : (lots : Lots) (book : Book) (group : ℕ → Bool) (a other : List Choice) → IsGreatest lots book group a
    → IsFeasible lots book group other → total lots book a ≤ total lots book other
    → ¬ IsPermutation a other → IsTie lots book group a other
tie lots book group a other best feasible no_less differ = record {
  greatest = best;
  other_greatest = record { feasible = feasible; greatest = λ third f. let h = best.greatest third f in omega arith };
  differ = differ;
}

-- ---- lists of rising bidders

count_yes : (p : Choice → Bool) (c : Choice) (xs : List Choice) → p c ≡ true → count_by p (c ∷ xs) ≡ 1 + count_by p xs
count_yes p c xs e = sum_by-cons (λ (d : Choice). cond (p d) 1 0) c xs ∙ rw e refl

count_no : (p : Choice → Bool) (c : Choice) (xs : List Choice) → p c ≡ false → count_by p (c ∷ xs) ≡ count_by p xs
count_no p c xs e = let s = sum_by-cons (λ (d : Choice). cond (p d) 1 0) c xs in let n : cond {A = ℕ} (p c) 1 0 ≡ 0 = rw e refl in omega arith

itself : (c : Choice) → is_choice c.bidder c.bid c ≡ true
itself c = and_from (c.bidder == c.bidder) (c.bid == c.bid) (eq-eqb c.bidder c.bidder refl) (eq-eqb c.bid c.bid refl)

another : (b j : ℕ) (c : Choice) → b < c.bidder → is_choice b j c ≡ false
another b j c l = ap (λ (t : Bool). t && (c.bid == j)) (let t : (c.bidder == b) ≡ false = grind (arith, nat_tests) in t)

abbrev IsAbove : ℕ → List Choice → Type 0
IsAbove b xs = AllByRecursion (λ later. b < later.bidder) xs

none_above : (b j : ℕ) (xs : List Choice) → IsAbove b xs → count_by (is_choice b j) xs ≡ 0
none_above b j [] h = refl
none_above b j (c ∷ xs) h = count_no (is_choice b j) c xs (another b j c h.0) ∙ none_above b j xs h.1

abbrev HaveSameCounts : List Choice → List Choice → Type 0
HaveSameCounts xs ys = (b j : ℕ) → count_by (is_choice b j) xs ≡ count_by (is_choice b j) ys

-- one of the lists begins with a lower bidder
lower : (c d : Choice) (xs ys : List Choice) → c.bidder < d.bidder → IsAbove d.bidder ys
    → count_by (is_choice c.bidder c.bid) (c ∷ xs) ≡ count_by (is_choice c.bidder c.bid) (d ∷ ys) → ⊥
lower c d xs ys l above e =
    let some = count_yes (is_choice c.bidder c.bid) c xs (itself c) in
    let none = none_above c.bidder c.bid (d ∷ ys) (
      l,
      all_agree (λ later. d.bidder < later.bidder) (λ later. c.bidder <
          later.bidder) ys (λ x m. omega arith) above,
    ) in
    omega arith

-- the first choices are of the same bidder, and so the same
same_bid : (c d : Choice) (xs ys : List Choice) → c.bidder ≡ d.bidder → IsAbove d.bidder ys
    → count_by (is_choice c.bidder c.bid) (c ∷ xs) ≡ count_by (is_choice c.bidder c.bid) (d ∷ ys)
    → is_choice c.bidder c.bid d ≡ true
same_bid c d xs ys same above e = ⊎_elim
    (λ yes. yes)
    (λ no.
    let some = count_yes (is_choice c.bidder c.bid) c xs (itself c) in
    let skip = count_no (is_choice c.bidder c.bid) d ys no in
    let none = none_above c.bidder c.bid ys (rw same above) in
    absurd (omega arith))
    (cases_Bool (is_choice c.bidder c.bid d))

rest : (p : Choice → Bool) (c d : Choice) (xs ys : List Choice) → p c ≡ p d → count_by p (c ∷ xs) ≡ count_by p (d ∷ ys) → count_by p xs ≡ count_by p ys
rest p c d xs ys same e =
    let s = sum_by-cons (λ (x : Choice). cond (p x) 1 0) c xs in
    let t = sum_by-cons (λ (x : Choice). cond (p x) 1 0) d ys in
    let head : cond {A = ℕ} (p c) 1 0 ≡ cond (p d) 1 0 = ap (λ (v : Bool). cond v 1 0) same in
    omega arith

same_by_counts : (xs ys : List Choice) → HasRisingBidders xs → HasRisingBidders ys → HaveSameCounts xs ys → same_choices xs ys ≡ true
same_by_counts [] [] h k e = refl
same_by_counts [] (d ∷ ys) h k e = let some = count_yes (is_choice d.bidder d.bid) d ys (itself d) in
    let none : 0 ≡ count_by (is_choice d.bidder d.bid) (d ∷ ys) = e d.bidder d.bid in absurd (omega arith)
same_by_counts (c ∷ xs) [] h k e = let some = count_yes (is_choice c.bidder c.bid) c xs (itself c) in
    let none : count_by (is_choice c.bidder c.bid) (c ∷ xs) ≡ 0 = e c.bidder c.bid in absurd (omega arith)
same_by_counts (c ∷ xs) (d ∷ ys) h k e = ⊎_elim
    (λ same.
    let parts = and_parts (d.bidder == c.bidder) (d.bid == c.bid) (same_bid c d xs ys same k.0 (e c.bidder c.bid)) in
    let bid = eqb-true d.bid c.bid parts.1 in
    and_from ((c.bidder == d.bidder) && (c.bid == d.bid)) (same_choices xs ys)
    (and_from (c.bidder == d.bidder) (c.bid == d.bid) (eq-eqb c.bidder d.bidder same) (eq-eqb c.bid d.bid (sym bid)))
    (same_by_counts xs ys h.1 k.1 (λ b j. rest (is_choice b j) c d xs ys (ap₂ (λ (m n : ℕ). (m == b) && (n == j)) same (sym bid)) (e b j))))
    (λ other. absurd (⊎_elim
    (λ l. lower c d xs ys l k.0 (e c.bidder c.bid))
    (λ l. lower d c ys xs l h.0 (sym (e d.bidder d.bid)))
    other))
    (cases_order c.bidder d.bidder)

pub others_differ : OthersDiffer
others_differ a other rising other_rising differ p =
    both_ways (same_choices a other) differ (same_by_counts a other rising other_rising
    (λ b j. sym (sum_by-IsPermutation (λ (c : Choice). cond (is_choice b j c) 1 0) a other p)))

pub others_tie : OthersTie
others_tie lots book group a other best feasible no_less rising other_rising differ =
    tie lots book group a other best feasible no_less (others_differ a other rising other_rising differ)
