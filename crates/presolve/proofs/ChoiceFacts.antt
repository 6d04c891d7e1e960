-- The kept bids that are among choices, choice by choice.
use Rattle.std.proofs.Common.{◌≡◌, ℕ, zero, suc, ◌+◌, ◌-◌, ◌<◌, ◌≤◌, ◌⊎◌, inl, inr, ⊎_elim, Bool, true, false, not, ◌&&◌}
use Rattle.std.proofs.Common.{◌||◌, ◌==◌, cond, List, [], ◌∷◌, ◌++◌, Option, Some, None, length, take, get_or, slice_get}
use Rattle.std.proofs.Common.{map, sym, refl, ap, ap₂, ◌∙◌, subst, arith, eqb-true, eq-eqb, take_all}
use Rattle.std.specs.Prelude.{◌↔◌, AllPairs, IsPermutation, IsTrue, filter, sum_by}
use Rattle.std.specs.List.{AllByRecursion, list_any}
use Rattle.std.specs.Option.{option_map_or}
use Rattle.std.proofs.Math.Bool.{and-false, or-false, or-true}
use Rattle.std.proofs.lemmas.Bool.{and_parts, and_from, both_ways, cases_lt, cond_both, false_from_ne_true, or_cases}
use Rattle.std.proofs.lemmas.List.{append-nil, get_or-map, get_or_past}
use Rattle.std.proofs.lemmas.List.Elements.{filter_agree}
use Rattle.std.proofs.lemmas.List.Folds.{list_any_more}
use Rattle.std.proofs.lemmas.List.Sorted.{list_any-IsPermutation}
use Rattle.std.proofs.lemmas.List.Sums.{sum_by-cons}
use Rattle.std.proofs.lemmas.Option.{slice_get-get_or, slice_get_past, get_or_from_slice_get}
use Rattle.auction_terms.specs.declared.bids.Bid.{Bid}
use Rattle.auction_terms.specs.declared.bids.Choice.{Choice}
use Rattle.auction_terms.specs.Allocations.{Book, bid_at, bid_of, form_of}
use Rattle.auction_terms.specs.Domination.{is_kept}
use Rattle.auction_terms.specs.Keeping.{Offer, is_kept_choice, kept_of, offers_from}
use Rattle.auction_terms.specs.inside.Keeping.{is_kept_offer, choice_of}
use Rattle.auction_terms.specs.Limits.{AreOffers, IsBefore, IsBook}
use Rattle.auction_terms.specs.Packages.{Lots}
use Rattle.auction_terms.proofs.LimitFacts.{kept_are_offers}
use Rattle.auction_terms.proofs.OfferFacts.{all_agree, all_filter, at_choice, stands, sum_filter}
use Rattle.presolve.specs.Flags.{has_choice, kept_among}
use Rattle.presolve.specs.Sizes.{IsUpTo}
use Rattle.presolve.specs.inside.Flags.{IsRepeated, is_offer_of}

-- an earlier bidder, or the same with an earlier bid
abbrev pub IsEarlier : Choice → Choice → Type 0
IsEarlier d c = (d.bidder < c.bidder) ⊎ ((d.bidder ≡ c.bidder) × (d.bid < c.bid))

-- ---------- what is filtered ----------

none_left : (q : Offer → Bool) (xs : List Offer) → AllByRecursion (λ o. q o ≡ false) xs → filter q xs ≡ []
none_left q [] h = refl
none_left q (o ∷ xs) h = rw h.0 (none_left q xs h.1)

is_of : (c : Choice) (o : Offer) → is_offer_of c o ≡ true → (c.bidder ≡ o.bidder) × (c.bid ≡ o.number)
is_of c o h = let e = and_parts (c.bidder == o.bidder) (c.bid == o.number) h in (eqb-true c.bidder o.bidder e.0, eqb-true c.bid o.number e.1)

module _ (lots : Lots) (q : Offer → Bool) (c : Choice) (earlier : (o : Offer) → q o ≡ true → IsEarlier (choice_of o) c) where
  -- the offer of a choice comes after those of earlier choices
  one_after : (xs : List Offer) → AreOffers lots xs → filter (λ o. q o || is_offer_of c o) xs ≡ filter q xs ++ filter (is_offer_of c) xs
  one_after [] h = refl
  one_after (o ∷ xs) h = by (q o) (is_offer_of c o) refl refl (one_after xs h.2)
    where
      by : (a b : Bool) → q o ≡ a → is_offer_of c o ≡ b → filter (λ p. q p || is_offer_of c p) xs ≡ filter q xs ++ filter (is_offer_of c) xs
          → filter (λ p. q p || is_offer_of c p) (o ∷ xs) ≡ filter q (o ∷ xs) ++ filter (is_offer_of c) (o ∷ xs)
      by true true e f more = let same = is_of c o f in let before = earlier o e in absurd (grind arith)
      by true false e f more = rw (e, f) (ap (λ (rest : List Offer). o ∷ rest) more)
      by false false e f more = rw (e, f) more
      by false true e f more =
          let same = is_of c o f in
          let none : filter q xs ≡ [] = none_left q xs (all_agree (IsBefore o) (λ p. q p ≡ false) xs
          (λ p after. false_from_ne_true (q p) (λ t. let before = earlier p t in absurd (grind arith))) h.1) in
          rw (e, f, none) (ap (λ (rest : List Offer). o ∷ rest) (rw none at more))

-- ---------- the offer of a choice ----------

abbrev unit_of : Offer → ℕ
unit_of o = 1

single : (x : Offer) (xs : List Offer) → AllByRecursion (λ o. o ≡ x) xs → sum_by unit_of xs ≡ 1 → xs ≡ x ∷ []
single x [] h n = absurd (omega arith)
single x (o ∷ []) h n = ap (λ (y : Offer). y ∷ []) h.0
single x (o ∷ p ∷ xs) h n =
    let s = sum_by-cons unit_of o (p ∷ xs) in
    let t = sum_by-cons unit_of p xs in
    absurd (omega arith)

none_at_all : (xs : List Offer) → AllByRecursion (λ o. ⊥) xs → xs ≡ []
none_at_all [] h = refl
none_at_all (o ∷ xs) h = absurd h.0

module _ (lots : Lots) (book : Book) (group : ℕ → Bool) (c : Choice) where
  abbrev kept : List Offer
  kept = kept_of lots book group

  abbrev IsThere : Offer → Type 0
  IsThere o = ((bid_of book (choice_of o) ≡ Some o.bid) × (is_kept_offer lots book group o ≡ true)) × (is_offer_of c o ≡ true)

  there : AllByRecursion IsThere (filter (is_offer_of c) kept)
  there = all_filter (λ o. (bid_of book (choice_of o) ≡ Some o.bid) × (is_kept_offer lots book group o ≡ true)) (is_offer_of c) kept
      (all_filter (λ o. bid_of book (choice_of o) ≡ Some o.bid) (is_kept_offer lots book group) (offers_from 1 book) (stands book))

  its_bid : (o : Offer) → IsThere o → bid_of book c ≡ Some o.bid
  its_bid o h = let same = is_of c o h.1 in ap₂ (λ (b n : ℕ). bid_of book record { bidder = b; bid = n }) same.0 same.1 ∙ h.0.0

  its_choice : (o : Offer) → IsThere o → is_kept_choice lots book group c ≡ true
  its_choice o h =
      let same = is_of c o h.1 in
      ap₂ (λ (b : ℕ) (x : Option Bid). not (group b) && option_map_or (λ (y : Bid). is_kept lots (form_of book b) y) x false) same.0 (its_bid o h) ∙ h.0.1

  -- a choice that isn't kept has no kept offer
  pub none_of : is_kept_choice lots book group c ≡ false → filter (is_offer_of c) kept ≡ []
  none_of other = none_at_all (filter (is_offer_of c) kept) (all_agree IsThere (λ o. ⊥) (filter (is_offer_of c) kept)
      (λ o h. both_ways (is_kept_choice lots book group c) other (its_choice o h)) there)

  module _ (x : Bid) (at : bid_of book c ≡ Some x) (is : is_kept_choice lots book group c ≡ true) where
    abbrev here : Offer
    here = record { bidder = c.bidder; number = c.bid; bid = x }

    is_here : (o : Offer) → IsThere o → o ≡ here
    is_here o h =
        let same = is_of c o h.1 in
        let bid : o.bid ≡ x = (let s : Some o.bid ≡ Some x = sym (its_bid o h) ∙ at in cc) in
        let first : o ≡ record { bidder = c.bidder; number = c.bid; bid = o.bid } =
        ap₂ (λ (b n : ℕ). record { bidder = b; number = n; bid = o.bid }) (sym same.0) (sym same.1) in
        first ∙ ap (λ (y : Bid). record { bidder = c.bidder; number = c.bid; bid = y }) bid

    abbrev counted : Offer → ℕ
    counted o = cond (is_kept_offer lots book group o) (cond (is_offer_of c o) 1 0) 0

    not_counted : (o : Offer) → (o.bidder ≡ c.bidder → (o.number ≡ c.bid → ⊥)) → counted o ≡ 0
    not_counted o differ =
        let no : is_offer_of c o ≡ false = false_from_ne_true (is_offer_of c o) (λ t. let same = is_of c o t in differ (sym same.0) (sym same.1)) in
        rw no (cond_both (is_kept_offer lots book group o) 0 0 (λ (n : ℕ). n ≡ 0) (λ e. refl) (λ e. refl))

    kept_here : is_kept_offer lots book group here ≡ true
    kept_here = sym (ap (λ (y : Option Bid). not (group c.bidder) && option_map_or (λ (z : Bid). is_kept lots (form_of book c.bidder) z) y false) at) ∙ is

    of_here : is_offer_of c here ≡ true
    of_here = and_from (c.bidder == c.bidder) (c.bid == c.bid) (eq-eqb c.bidder c.bidder refl) (eq-eqb c.bid c.bid refl)

    counted_here : counted here ≡ 1
    counted_here = rw (kept_here, of_here) refl

    -- a choice that is kept has its offer
    pub one_of : filter (is_offer_of c) kept ≡ here ∷ []
    one_of = single here (filter (is_offer_of c) kept) (all_agree IsThere (λ o. o ≡ here) (filter (is_offer_of c) kept) is_here there)
        (sum_filter unit_of (is_offer_of c) kept ∙ sum_filter (λ o. cond (is_offer_of c o) 1 0) (is_kept_offer lots book group) (offers_from 1 book)
        ∙ at_choice counted book c.bidder c.bid x at not_counted ∙ counted_here)

-- ---------- choices in order ----------

abbrev pub IsInOrder : Choice → Choice → Type 0
IsInOrder c d = IsUpTo c.bidder c.bid d.bidder d.bid

module _ (lots : Lots) (book : Book) (group : ℕ → Bool) (within : IsBook lots book) (sorted : List Choice) where
  -- the kept bids that are among the first choices
  abbrev among_first : ℕ → List Offer
  among_first place = kept_among lots book group (take place sorted)

  pub at_start : among_first 0 ≡ []
  at_start = none_kept (kept_of lots book group)
    where
      none_kept : (xs : List Offer) → filter (λ o. false) xs ≡ []
      none_kept [] = refl
      none_kept (o ∷ xs) = none_kept xs

  pub at_end : (place : ℕ) (choices : List Choice) → length sorted ≤ place → IsPermutation choices sorted
      → among_first place ≡ kept_among lots book group choices
  at_end place choices past same =
      ap (kept_among lots book group) (take_all place sorted past)
      ∙ filter_agree (λ o. has_choice sorted o.bidder o.number) (λ o. has_choice choices o.bidder o.number)
      (λ o. sym (list_any-IsPermutation (λ c. is_offer_of c o) choices sorted same)) (kept_of lots book group)

  module _ (c : Choice) where
    -- one choice more
    has_more : (place : ℕ) → place < length sorted → slice_get sorted place ≡ Some c → (o : Offer)
        → has_choice (take (place + 1) sorted) o.bidder o.number ≡ (has_choice (take place sorted) o.bidder o.number || is_offer_of c o)
    has_more place less at o = list_any_more (λ d. is_offer_of d o) sorted place c less
        ∙ ap (λ (d : Choice). has_choice (take place sorted) o.bidder o.number || is_offer_of d o)
        (get_or_from_slice_get sorted place c c at)

    found : (o : Offer) (place : ℕ) → place ≤ length sorted → has_choice (take place sorted) o.bidder o.number ≡ true
        → (k : ℕ) × (k < place) × (is_offer_of (get_or sorted k c) o ≡ true)
    found o zero less h = absurd (both_ways false refl h)
    found o (suc place) less h =
        let next : suc place ≡ place + 1 = omega arith in
        let more = sym (list_any_more (λ d. is_offer_of d o) sorted place c (omega arith))
        ∙ ap (λ (n : ℕ). list_any (λ d. is_offer_of d o) (take n sorted)) (sym next) ∙ h in
        ⊎_elim
        (λ before. let w = found o place (omega arith) before in (w.0, omega (arith, w.1), w.2))
        (λ now. (place, omega arith, now))
        (or_cases _ _ more)

    -- a choice after those before it
    pub one_more : (place : ℕ) → place < length sorted → slice_get sorted place ≡ Some c → ((k : ℕ) → k < place → IsEarlier (get_or sorted k c) c)
        → among_first (place + 1) ≡ among_first place ++ filter (is_offer_of c) (kept_of lots book group)
    one_more place less at earlier =
        filter_agree (λ o. has_choice (take (place + 1) sorted) o.bidder o.number)
        (λ o. has_choice (take place sorted) o.bidder o.number || is_offer_of c o) (has_more place less at) (kept_of lots book group)
        ∙ one_after lots (λ o. has_choice (take place sorted) o.bidder o.number) c (λ o has.
        let w = found o place (omega arith) has in
        let same = is_of (get_or sorted w.0 c) o w.2 in
        let before = earlier w.0 w.1 in
        grind arith) (kept_of lots book group) (kept_are_offers lots book group within)

    again : (a b : Bool) → ((a || b) || b) ≡ (a || b)
    again a true = or-true (a || true) ∙ sym (or-true a)
    again a false = or-false (a || false)

    -- a choice that stands before it too
    pub one_again : (place : ℕ) → 1 ≤ place → place < length sorted → slice_get sorted place ≡ Some c
        → slice_get sorted (place - 1) ≡ Some c → among_first (place + 1) ≡ among_first place
    one_again zero some less at before = absurd (omega arith)
    one_again (suc place) some less at before =
        filter_agree (λ o. has_choice (take (suc place + 1) sorted) o.bidder o.number) (λ o. has_choice (take (suc place) sorted) o.bidder o.number)
        (λ o.
        let next : suc place ≡ place + 1 = omega arith in
        let back : suc place - 1 ≡ place = omega arith in
        let prior : has_choice (take (suc place) sorted) o.bidder o.number ≡ (has_choice (take place sorted) o.bidder o.number || is_offer_of c o) =
        ap (λ (n : ℕ). has_choice (take n sorted) o.bidder o.number) next ∙ has_more place (omega arith) (ap (slice_get sorted) (sym back) ∙ before) o in
        has_more (suc place) less at o ∙ rw prior (again (has_choice (take place sorted) o.bidder o.number) (is_offer_of c o)))
        (kept_of lots book group)

-- ---------- what a choice finds ----------

pub no_bid : (form : List Bid) (j : ℕ) → (j ≡ 0) ⊎ (length form < j) → bid_at form j ≡ None
no_bid form zero h = refl
no_bid form (suc j) h = slice_get_past form j (⊎_elim (λ z. absurd (omega arith)) (λ l. omega arith) h)

pub no_bid_of_none : (form : List Bid) (j : ℕ) → [] ≡ form → bid_at form j ≡ None
no_bid_of_none form zero h = refl
no_bid_of_none form (suc j) h = ap (λ (xs : List Bid). slice_get xs j) (sym h)

pub its_bid_at : (form : List Bid) (j : ℕ) (x : Bid) → 1 ≤ j → j ≤ length form → x ≡ get_or form (j - 1) x → bid_at form j ≡ Some x
its_bid_at form zero x some within at = absurd (omega arith)
its_bid_at form (suc j) x some within at =
    let back : suc j - 1 ≡ j = omega arith in
    slice_get-get_or form j x (omega arith) ∙ ap (λ (y : Bid). Some y) (ap (λ (n : ℕ). get_or form n x) (sym back) ∙ sym at)

-- a bidder with a bid is one of the book's
pub bidder_within : (book : Book) (b : ℕ) → 0 < length (form_of book b) → (1 ≤ b) × (b ≤ length book)
bidder_within book zero h = absurd (omega arith)
bidder_within book (suc b) h = ⊎_elim (λ inside. (omega arith, omega arith))
    (λ past. absurd (let none = ap length (get_or_past book b [] past) in omega arith)) (cases_lt b (length book))

pub flag_is : (lots : Lots) (form : List Bid) (flags : List Bool) (place : ℕ) (x : Bid) (flag : Bool) → flags ≡ map (is_kept lots form) form
    → place < length form → x ≡ get_or form place x → flag ≡ get_or flags place flag → is_kept lots form x ≡ flag
flag_is lots form flags place x flag are less at is =
    ap (is_kept lots form) at ∙ sym (get_or-map (is_kept lots form) form place x flag less) ∙ ap (λ (fs : List Bool). get_or fs place flag) (sym are) ∙ sym is

module _ (lots : Lots) (book : Book) (group : ℕ → Bool) (c : Choice) where
  stands_with : (x : Bid) → bid_of book c ≡ Some x → is_kept_choice lots book group c ≡ (not (group c.bidder) && is_kept lots (form_of book c.bidder) x)
  stands_with x at = ap (λ (y : Option Bid). not (group c.bidder) && option_map_or (λ (z : Bid). is_kept lots (form_of book c.bidder) z) y false) at

  pub stays : (x : Bid) → group c.bidder ≡ false → bid_of book c ≡ Some x → is_kept lots (form_of book c.bidder) x ≡ true
      → is_kept_choice lots book group c ≡ true
  stays x outside at h = stands_with x at ∙ rw (outside, h) refl

  -- a choice that isn't kept adds none
  module _ (before : List Offer) where
    abbrev AddsNone : Type 0
    AddsNone = before ≡ before ++ filter (is_offer_of c) (kept_of lots book group)

    none_added : is_kept_choice lots book group c ≡ false → AddsNone
    none_added h = sym (ap (λ (more : List Offer). before ++ more) (none_of lots book group c h) ∙ append-nil before)

    pub left_out : group c.bidder ≡ true → AddsNone
    left_out h = none_added (rw h refl)

    pub not_there : bid_of book c ≡ None → AddsNone
    not_there h = none_added (rw h (and-false (not (group c.bidder))))

    pub dropped : (x : Bid) → bid_of book c ≡ Some x → is_kept lots (form_of book c.bidder) x ≡ false → AddsNone
    dropped x at h = none_added (stands_with x at ∙ rw h (and-false (not (group c.bidder))))

-- ---------- neighbours ----------

cases_le : (x y : ℕ) → x ≤ y → (x < y) ⊎ (x ≡ y)
cases_le x y l = ⊎_elim (λ less. inl less) (λ least. inr (omega arith)) (cases_lt x y)

strictly : (a m b n : ℕ) → IsUpTo a m b n → (a ≡ b → m ≡ n → ⊥) → (a < b) ⊎ ((a ≡ b) × (m < n))
strictly a m b n up differ = ⊎_elim (λ l. inl l) (λ e. ⊎_elim (λ l. inr (e.0, l)) (λ same. absurd (differ e.0 same)) (cases_le m n e.1)) up

strictly_after : (a m b n c o : ℕ) → IsUpTo a m b n → (b < c) ⊎ ((b ≡ c) × (n < o)) → (a < c) ⊎ ((a ≡ c) × (m < o))
strictly_after a m b n c o up later = grind arith

-- a choice that isn't the one before it comes after all before it
pub after_all : (sorted : List Choice) (place : ℕ) (c : Choice) → AllPairs IsInOrder sorted → place < length sorted
    → slice_get sorted place ≡ Some c → (IsRepeated sorted place → ⊥) → (k : ℕ) → k < place → IsEarlier (get_or sorted k c) c
after_all sorted place c rising less at new k before =
    let last = get_or sorted (place - 1) c in
    let here : get_or sorted place c ≡ c = get_or_from_slice_get sorted place c c at in
    let next : IsInOrder last c = subst (IsInOrder last) here (rising (place - 1) place c (omega arith) less) in
    let ends : IsEarlier last c = strictly last.bidder last.bid c.bidder c.bid next (λ b n.
    let same : last ≡ c = ap₂ (λ (x y : ℕ). record { bidder = x; bid = y }) b n in
    new (omega arith, at ∙ ap (λ (d : Choice). Some d) (sym same) ∙ sym (slice_get-get_or sorted (place - 1) c (omega arith)))) in
    ⊎_elim
    (λ l. strictly_after _ _ last.bidder last.bid c.bidder c.bid (rising k (place - 1) c l (omega arith)) ends)
    (λ same. subst (λ (n : ℕ). IsEarlier (get_or sorted n c) c) (sym same) ends)
    (cases_le k (place - 1) (omega arith))

-- ---------- what the test of a repeated choice says ----------

pub not_repeated : (sorted shown : List Choice) (place : ℕ) (b : Bool) → shown ≡ sorted → IsTrue b ↔ IsRepeated shown place → b ≡ false
    → IsRepeated sorted place → ⊥
not_repeated sorted shown place b same tells other is = both_ways b other (tells.1 (rw same is))

pub repeated : (sorted shown : List Choice) (place : ℕ) (b : Bool) → shown ≡ sorted → IsTrue b ↔ IsRepeated shown place → b ≡ true → IsRepeated sorted place
repeated sorted shown place b same tells it = subst (λ (choices : List Choice). IsRepeated choices place) same (tells.0 it)

pub one_again_at : (lots : Lots) (book : Book) (group : ℕ → Bool) (within : IsBook lots book) (sorted : List Choice) (place : ℕ)
    → place < length sorted → IsRepeated sorted place
    → kept_among lots book group (take (place + 1) sorted) ≡ kept_among lots book group (take place sorted)
one_again_at lots book group within sorted place less again =
    let none : Choice = record { bidder = 0; bid = 0 } in
    let c = get_or sorted place none in
    let at : slice_get sorted place ≡ Some c = slice_get-get_or sorted place none less in
    one_again lots book group within sorted c place again.0 less at (sym again.1 ∙ at)
