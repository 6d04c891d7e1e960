-- Opportunity costs lie between what the group's lots are worth and what the group pays.
use Rattle.std.proofs.Common.{◌≡◌, ℕ, zero, suc, ◌+◌, ◌-◌, ◌≤◌, Bool, true, false, not, ◌==◌, List, [], ◌∷◌, is_some}
use Rattle.std.proofs.Common.{length, map, refl, le_refl, le-leb, leb-true, ap₂, arith, pos, ◌-ℤ◌, ◌≤ℤ◌}
use Rattle.std.specs.Prelude.{sum_by, filter, cond}
use Rattle.std.specs.List.{range_with_len}
use Rattle.std.proofs.lemmas.Bool.{and_parts, and_from}
use Rattle.std.proofs.lemmas.Int.{ints}
use Rattle.std.proofs.lemmas.List.Filters.{sum_by-filter_both}
use Rattle.std.proofs.lemmas.List.Elements.{recursion_from_All, All-from_recursion}
use Rattle.auction_terms.specs.declared.bids.Choice.{Choice}
use Rattle.auction_terms.specs.Allocations.{Book, bid_of, amount_of, quantity_of, weighed_choice, loads, total, is_eligible, IsFeasible}
use Rattle.auction_terms.proofs.OfferFacts.{all_filter, all_agree}
use Rattle.auction_terms.specs.Groups.{has}
use Rattle.auction_terms.specs.Packages.{Lots, is_within, left, worth, worth_of_all}
use Rattle.auction_terms.proofs.WeighedFacts.{weighed_le}
use Rattle.auction_terms.proofs.PackageFacts.{fits_smaller}
use Rattle.auction_terms.proofs.AllocationFacts.{total_is}
use Rattle.outcome.specs.Report.{amounts_of_group}
use Rattle.outcome.specs.Costs.{CostsAreBounded, CostsAreOwn, CostsCoverLots, IsGreatestTotal, worth_of_group}
use Rattle.program_rows.specs.Faithful.{IsGreatest}

-- ---- what smaller packages leave

within_each : (f g : ℕ → ℕ) → ((category : ℕ) → f category ≤ g category) → (a n : ℕ)
    → is_within (map f (range_with_len a n)) (map g (range_with_len a n)) ≡ true
within_each f g each a zero = refl
within_each f g each a (suc n) = and_from _ _ (le-leb (f a) (g a) (each a)) (within_each f g each (a + 1) n)

-- what is left of a smaller package is greater
left_within : (supply q p : List ℕ) → is_within q p ≡ true → is_within (left supply p) (left supply q) ≡ true
left_within [] q p h = refl
left_within (n ∷ supply) [] [] h = and_from _ _ (le-leb n n (le_refl n)) (left_within supply [] [] refl)
left_within (n ∷ supply) [] (x ∷ p) h = and_from _ _ (le-leb (n - x) n (omega arith)) (left_within supply [] p refl)
left_within (n ∷ supply) (y ∷ q) [] h =
    let e = and_parts _ _ h in
    let l = leb-true y 0 e.0 in
    and_from _ _ (le-leb n (n - y) (omega arith)) (left_within supply q [] e.1)
left_within (n ∷ supply) (y ∷ q) (x ∷ p) h =
    let e = and_parts _ _ h in
    let l = leb-true y x e.0 in
    and_from _ _ (le-leb (n - x) (n - y) (omega arith)) (left_within supply q p e.1)

-- ---- what is left without the group

module _ (lots : Lots) (book : Book) (group : List ℕ) where
  abbrev inside : Choice → Bool
  inside c = has group c.bidder

  abbrev outside : Choice → Bool
  outside c = not (has group c.bidder)

  parted : (f : Choice → ℕ) (a : List Choice) → sum_by f (filter inside a) + sum_by f (filter outside a) ≡ sum_by f a
  parted f a = sum_by-filter_both inside outside (λ x. refl) f a

  fewer : (a : List Choice) → is_within (loads lots book (filter outside a)) (loads lots book a) ≡ true
  fewer a = within_each (λ category. sum_by (quantity_of book category) (filter outside a))
      (λ category. sum_by (quantity_of book category) a) (λ category. let e = parted (quantity_of book category) a in omega arith) 0
      (length lots.supply)

  -- without the group at least as much is left
  more_left : (a : List Choice) → worth lots (left lots.supply (loads lots book a)) ≤ worth lots (left lots.supply (loads lots book (filter outside a)))
  more_left a = weighed_le lots.values (left lots.supply (loads lots book a)) (left lots.supply (loads lots book (filter outside a)))
      (left_within lots.supply (loads lots book (filter outside a)) (loads lots book a) (fewer a))

  -- so the total falls by no more than the group's amounts
  falls : (a : List Choice) → total lots book a ≤ amounts_of_group book group a + total lots book (filter outside a)
  falls a = let e = parted (amount_of book) a in let l = more_left a in omega arith

  -- the choices of bidders outside the group
  without : (a : List Choice) → IsFeasible lots book (λ b. false) a → IsFeasible lots book (has group) (filter outside a)
  without a f = record {
    one_bid_each = λ b. let h = f.one_bid_each b in let e = parted (λ c. cond (c.bidder == b) 1 0) a in omega arith;
    eligible = All-from_recursion _ _ (all_agree _ _ (filter outside a) (λ c e. and_from _ _ e.1 e.0)
        (all_filter (λ c. is_some (bid_of book c) ≡ true) outside a (recursion_from_All _ a f.eligible)));
    fit = fits_smaller lots (loads lots book (filter outside a)) (loads lots book a) (fewer a) f.fit;
  }

  -- leaving nobody out allows at least as much
  allowed : (a : List Choice) → IsFeasible lots book (has group) a → IsFeasible lots book (λ b. false) a
  allowed a f = record {
    one_bid_each = f.one_bid_each;
    eligible = All-from_recursion _ _ (all_agree (λ c. is_eligible book (has group) c ≡ true) (λ c. is_eligible book (λ b. false) c ≡ true)
        a (λ c e. (and_parts (not (has group c.bidder)) (is_some (bid_of book c)) e).1) (recursion_from_All _ a f.eligible));
    fit = f.fit;
  }

between : (t f g r : ℕ) → f ≤ g + r → r ≤ t → t ≤ f → (pos 0 ≤ℤ (pos t -ℤ (pos f -ℤ pos g))) × ((pos t -ℤ (pos f -ℤ pos g)) ≤ℤ pos g)
between t f g r e low high = (omega (arith, ints), omega (arith, ints))

pub costs_are_bounded : CostsAreBounded
costs_are_bounded lots book group first a best other =
    let low = other.greatest (filter (λ c. not (has group c.bidder)) first) (without lots book group first best.feasible) in
    let high = best.greatest a (allowed lots book group a other.feasible) in
    let both = between (total lots book a) (total lots book first) (amounts_of_group book group first)
    (total lots book (filter (λ c. not (has group c.bidder)) first)) (falls lots book group first) low high in
    record { not_negative = both.0; at_most_amounts = both.1; no_higher_total = high }

-- the total falls by the group's amounts, less what its lots are worth
covered : (t f g r w : ℕ) → r + g ≡ f + w → r ≤ t → pos w ≤ℤ (pos t -ℤ (pos f -ℤ pos g))
covered t f g r w e low = omega (arith, ints)

freed : (r f g s a b w v all : ℕ) → r + v ≡ s + all → f + b ≡ a + all → g + s ≡ a → w + v ≡ b → r + g ≡ f + w
freed r f g s a b w v all e h k m = omega arith

pub costs_cover_lots : CostsCoverLots
costs_cover_lots lots book group first a sized best other =
    let outside : Choice → Bool = λ c. not (has group c.bidder) in
    let feasible = without lots book group first best.feasible in
    let others = total_is lots book (filter outside first) sized feasible.fit in
    let all = total_is lots book first sized best.feasible.fit in
    let amounts = parted lots book group (amount_of book) first in
    let worths = parted lots book group (weighed_choice lots.values book) first in
    let same = freed (total lots book (filter outside first)) (total lots book first) (amounts_of_group book group first)
    (sum_by (amount_of book) (filter outside first)) (sum_by (amount_of book) first)
    (sum_by (weighed_choice lots.values book) first) (worth_of_group lots book group first)
    (sum_by (weighed_choice lots.values book) (filter outside first)) (worth_of_all lots) others all amounts worths in
    covered (total lots book a) (total lots book first) (amounts_of_group book group first) (total lots book (filter outside first))
    (worth_of_group lots book group first) same (other.greatest (filter outside first) feasible)

-- there is one greatest total
one_greatest : (lots : Lots) (book : Book) (group : ℕ → Bool) (amount : ℕ) (a : List Choice) → IsGreatestTotal lots book group amount
    → IsGreatest lots book group a → total lots book a ≡ amount
one_greatest lots book group amount a reached best =
    let most = reached.greatest.greatest a best.feasible in
    let least = best.greatest reached.allocation reached.greatest.feasible in
    let is = reached.has_total in
    omega arith

pub costs_are_own : CostsAreOwn
costs_are_own lots book group first a of_all less reached_by_all reached_less best other =
    let whole = one_greatest lots book (λ b. false) of_all first reached_by_all best in
    let part = one_greatest lots book (has group) less a reached_less other in
    ap₂ (λ (t f : ℕ). pos t -ℤ (pos f -ℤ pos (amounts_of_group book group first))) part whole
