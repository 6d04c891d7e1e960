-- What follows from awards of kept bids completes all of greatest total.
use Rattle.std.proofs.Common.{◌≡◌, ℕ, zero, suc, ◌+◌, ◌<◌, ◌≤◌, Bool, true, false, not, ◌==◌, cond, List, [], ◌∷◌, ◌++◌, Some}
use Rattle.std.proofs.Common.{None, Option, is_some, slice_index, length, sym, refl, ap, ap₂, ◌∙◌, subst, arith}
use Rattle.std.proofs.Common.{le_refl, map, drop, set, get_or, ⊎_elim, inl, inr, pos, ◌<ℤ◌, ◌≤ℤ◌, ℤ, eqb-true, eq-eqb}
use Rattle.std.specs.Prelude.{count_by, sum_by, All, Any, Contains, IsPermutation, filter, find, flat_map, ◌⊎◌, ◌&&◌, int_le}
use Rattle.std.specs.List.{AllByRecursion, range_with_len, remove, swap}
use Rattle.std.specs.Ordering.{int_eq}
use Rattle.std.specs.Option.{option_map_or}
use Rattle.std.proofs.lemmas.Int.{ints}
use Rattle.std.proofs.lemmas.Bool.Decides.{Decides-int_eq}
use Rattle.std.proofs.lemmas.Bool.{and_parts, and_from, both_ways, cases_Bool, cond_both, not-true, false_from_ne_true}
use Rattle.std.proofs.lemmas.Option.{none-some, same_Some, slice_get_within}
use Rattle.std.proofs.lemmas.List.{length-map, map-set}
use Rattle.std.proofs.lemmas.List.Sums.{sum_by-cons}
use Rattle.std.proofs.lemmas.List.Elements.{All-from_recursion, recursion_from_All, All-contains_itself, filter_passes}
use Rattle.std.proofs.lemmas.List.Elements.{Contains-append_left, Contains-append_right}
use Rattle.std.proofs.lemmas.List.FromFn.{get_or-range_with_len, length-range_with_len}
use Rattle.std.proofs.lemmas.List.Sorted.{IsPermutation-keeps, IsPermutation-map, IsPermutation-refl, IsPermutation-remove, IsPermutation-swap}
use Rattle.std.proofs.lemmas.List.Sorted.{All-permutation, IsPermutation-sym, IsPermutation-trans}
use Rattle.auction_terms.specs.declared.bids.Bid.{Bid}
use Rattle.auction_terms.specs.declared.bids.Choice.{Choice}
use Rattle.auction_terms.specs.Packages.{Lots, fits, is_within, worth, weighed}
use Rattle.auction_terms.specs.Domination.{is_kept, net}
use Rattle.auction_terms.specs.Allocations.{Book, form_of, bid_at, bid_of, amount_of, quantity_of, weighed_choice, total}
use Rattle.auction_terms.specs.Allocations.{loads, is_eligible, IsFeasible, IsSized}
use Rattle.auction_terms.specs.Keeping.{is_kept_choice, KeptInstead}
use Rattle.auction_terms.proofs.PackageFacts.{keeps_the_best, within_at}
use Rattle.auction_terms.proofs.WeighedFacts.{le_from, lt_from}
use Rattle.auction_terms.proofs.AllocationFacts.{IsGood, StandIn, good, stand_in_without, stand_in_with}
use Rattle.auction_terms.proofs.AllocationFacts.{stand_in_feasible, stand_in_total, total_is, worths}
use Rattle.auction_terms.proofs.OfferFacts.{all_agree, all_append, all_filter}
use Rattle.auction_terms.proofs.PermutedFacts.{feasible_permuted, loads_permuted, total_permuted}
use Rattle.program_rows.specs.Faithful.{IsGreatest}
use Rattle.outcome.specs.Following.{covers, cover, is_stand_in, stand_ins, variants, awards, following, with_following}
use Rattle.outcome.proofs.TieFacts.{others_differ}
use Rattle.outcome.specs.PointAllocation.{HasRisingBidders}
use Rattle.outcome.specs.Ties.{same_choices}
use Rattle.outcome.specs.Following.{EachPair, AreApart, AreAllKept, FollowingAreTheRest, FollowingAreGreatest}

-- ---------- lists ----------

module _ {P X : Type 0} (f : P → X) where
  mapped_at : (l : List P) (j : ℕ) (d : P) → get_or (map f l) j (f d) ≡ f (get_or l j d)
  mapped_at [] j d = refl
  mapped_at (x ∷ l) zero d = refl
  mapped_at (x ∷ l) (suc j) d = mapped_at l j d

  map_swap : (l : List P) (i j : ℕ) → map f (swap l i j) ≡ swap (map f l) i j
  map_swap [] i j = refl
  map_swap (d ∷ ys) i j =
      let l : List P = d ∷ ys in
      map-set f (set l i (get_or l j d)) j (get_or l i d)
      ∙ ap₂ (λ (u : List X) (v : X). set u j v)
      (map-set f l i (get_or l j d) ∙ ap (λ (v : X). set (map f l) i v) (sym (mapped_at l j d)))
      (sym (mapped_at l i d))

  -- what maps to a permutation is a permutation
  record Lifted (ps : List P) (a : List X) : Type 0 where
    moved : List P
    same : IsPermutation ps moved
    is : map f moved ≡ a

  lifted : (ps : List P) (a : List X) → IsPermutation (map f ps) a → Lifted ps a
  lifted ps a = IsPermutation-keeps (map f ps) (Lifted ps) (record { moved = ps; same = IsPermutation-refl ps; is = refl })
      (λ l i j p q h.
      let size : length (map f h.moved) ≡ length l = ap length h.is in
      let long = length-map h.moved f in
      record {
        moved = swap h.moved i j;
        same = IsPermutation-trans ps h.moved (swap h.moved i j) h.same
            (IsPermutation-swap h.moved (swap h.moved i j) i j (omega arith) (omega arith) refl);
        is = map_swap h.moved i j ∙ ap (λ (xs : List X). swap xs i j) h.is;
      })
      a

module _ {X : Type 0} (p : X → Bool) where
  -- what is found passes the test
  found_passes : (xs : List X) (y : X) → find p xs ≡ Some y → p y ≡ true
  found_passes [] y h = absurd (none-some y h)
  found_passes (x ∷ xs) y h = ⊎_elim
      (λ e. let same : x ≡ y = (let f = rw e at h in same_Some x y f) in subst (λ (w : X). p w ≡ true) same e)
      (λ e. found_passes xs y (rw e at h))
      (cases_Bool (p x))

  -- and something is found where one passes
  found_some : (xs : List X) (y : X) → Contains xs y → p y ≡ true → (z : X) × (find p xs ≡ Some z)
  found_some [] y c h = absurd (let l = c.1 in omega arith)
  found_some (x ∷ xs) y c h = ⊎_elim
      (λ e. (x, rw e refl))
      (λ e. let r = found_some xs y (later x xs y c e h) h in (r.0, rw e r.1))
      (cases_Bool (p x))
    where
      later : (x : X) (xs : List X) (y : X) → Contains (x ∷ xs) y → p x ≡ false → p y ≡ true → Contains xs y
      later x xs y (zero, l, e) fails passes = absurd (both_ways (p x) fails (ap p e ∙ passes))
      later x xs y (suc k, l, e) fails passes = (k, omega arith, e)

  Contains-filter : (xs : List X) (y : X) → Contains xs y → p y ≡ true → Contains (filter p xs) y
  Contains-filter [] y c h = absurd (let l = c.1 in omega arith)
  Contains-filter (x ∷ xs) y (zero, l, e) h = cond_both (p x) (x ∷ filter p xs) (filter p xs) (λ (ys : List X). Contains ys y)
      (λ t. (0, omega arith, e)) (λ t. absurd (both_ways (p x) t (ap p e ∙ h)))
  Contains-filter (x ∷ xs) y (suc k, l, e) h =
      let c = Contains-filter xs y (k, omega arith, e) h in
      cond_both (p x) (x ∷ filter p xs) (filter p xs) (λ (ys : List X). Contains ys y) (λ t. (suc c.0, omega (arith, c.1), c.2)) (λ t. c)

module _ {X Y : Type 0} where
  Contains-map : (f : X → Y) (xs : List X) (x : X) → Contains xs x → Contains (map f xs) (f x)
  Contains-map f [] x c = absurd (let l = c.1 in omega arith)
  Contains-map f (z ∷ xs) x (zero, l, e) = (0, omega arith, ap f e)
  Contains-map f (z ∷ xs) x (suc k, l, e) = let r = Contains-map f xs x (k, omega arith, e) in (suc r.0, omega (arith, r.1), r.2)

  Contains-flat_map : (f : X → List Y) (xs : List X) (x : X) (y : Y) → Contains xs x → Contains (f x) y → Contains (flat_map f xs) y
  Contains-flat_map f [] x y c i = absurd (let l = c.1 in omega arith)
  Contains-flat_map f (z ∷ xs) x y (zero, l, e) i = Contains-append_left (f z) (flat_map f xs) y (subst (λ (w : X). Contains (f w) y) (sym e) i)
  Contains-flat_map f (z ∷ xs) x y (suc k, l, e) i = Contains-append_right (f z) (flat_map f xs) y (Contains-flat_map f xs x y (k, omega arith, e) i)

  -- what is true of each, is true of all together
  pub all_map : (Q : Y → Type 0) (R : X → Type 0) (f : X → Y) → ((x : X) → R x → Q (f x)) → (xs : List X) → AllByRecursion R xs → AllByRecursion Q (map f xs)
  all_map Q R f h [] a = tt
  all_map Q R f h (x ∷ xs) a = (h x a.0, all_map Q R f h xs a.1)

  pub all_flat_map : (Q : Y → Type 0) (R : X → Type 0) (f : X → List Y) → ((x : X) → R x → AllByRecursion Q (f x)) → (xs : List X) → AllByRecursion R xs
      → AllByRecursion Q (flat_map f xs)
  all_flat_map Q R f h [] a = tt
  all_flat_map Q R f h (x ∷ xs) a = all_append Q (f x) (flat_map f xs) (h x a.0) (all_flat_map Q R f h xs a.1)

-- ---------- pairs ----------

module _ {X : Type 0} (R : X → X → Type 0) where
  pairs_append : (xs ys : List X) → EachPair R xs → EachPair R ys → AllByRecursion (λ x. AllByRecursion (R x) ys) xs → EachPair R (xs ++ ys)
  pairs_append [] ys h k c = k
  pairs_append (x ∷ xs) ys h k c = (all_append (R x) xs ys h.0 c.0, pairs_append xs ys h.1 k c.1)

  pairs_filter : (q : X → Bool) (xs : List X) → EachPair R xs → EachPair R (filter q xs)
  pairs_filter q [] h = tt
  pairs_filter q (x ∷ xs) h = cond_both (q x) (x ∷ filter q xs) (filter q xs) (λ (ys : List X). EachPair R ys)
      (λ t. (all_agree (λ y. R x y × (q y ≡ true)) (R x) (filter q xs) (λ y e. e.0) (all_filter (R x) q xs h.0), pairs_filter q xs h.1))
      (λ t. pairs_filter q xs h.1)

  -- what is true of each decides for pairs
  pairs_from : (Q : X → Type 0) (S : X → X → Type 0) (xs : List X) → ((x y : X) → Q x → Q y → S x y → R x y) → AllByRecursion Q xs
      → EachPair S xs → EachPair R xs
  pairs_from Q S [] f a h = tt
  pairs_from Q S (x ∷ xs) f a h = (each xs a.1 h.0, pairs_from Q S xs f a.1 h.1)
    where
      each : (ys : List X) → AllByRecursion Q ys → AllByRecursion (S x) ys → AllByRecursion (R x) ys
      each [] b k = tt
      each (y ∷ ys) b k = (f x y a.0 b.0 k.0, each ys b.1 k.1)

pairs_map : {X Y : Type 0} (R : X → X → Type 0) (S : Y → Y → Type 0) (f : X → Y) → ((x y : X) → R x y → S (f x) (f y)) → (xs : List X)
    → EachPair R xs → EachPair S (map f xs)
pairs_map R S f h [] e = tt
pairs_map R S f h (x ∷ xs) e = (all_map (S (f x)) (R x) f (λ y r. h x y r) xs e.0, pairs_map R S f h xs e.1)

-- what is true of the pairs within each list, and of each with all later lists, is true of all pairs
pairs_flat_map : {X Y : Type 0} (R : Y → Y → Type 0) (T : X → X → Type 0) (Q : X → Type 0) (P : X → Y → Type 0) (f : X → List Y)
    → ((x : X) → Q x → EachPair R (f x)) → ((x : X) → Q x → AllByRecursion (P x) (f x)) → ((x z : X) (v w : Y) → T x z → P x v → P z w → R v w)
    → (xs : List X) → AllByRecursion Q xs → EachPair T xs → EachPair R (flat_map f xs)
pairs_flat_map R T Q P f own each apart [] q t = tt
pairs_flat_map {X} {Y} R T Q P f own each apart (x ∷ xs) q t = pairs_append R (f x) (flat_map f xs) (own x q.0)
    (pairs_flat_map R T Q P f own each apart xs q.1 t.1)
    (all_agree (P x) (λ v. AllByRecursion (R v) (flat_map f xs)) (f x) (λ v p. all_later v p xs q.1 t.0) (each x q.0))
  where
    all_later : (v : Y) → P x v → (zs : List X) → AllByRecursion Q zs → AllByRecursion (T x) zs → AllByRecursion (R v) (flat_map f zs)
    all_later v p [] q' t' = tt
    all_later v p (z ∷ zs) q' t' = all_append (R v) (f z) (flat_map f zs)
        (all_agree (P z) (R v) (f z) (λ w r. apart x z v w t'.0 p r) (each z q'.0)) (all_later v p zs q'.1 t'.1)

numbers_differ : (a n : ℕ) → EachPair (λ i j. ¬ (i ≡ j)) (range_with_len a n)
numbers_differ a zero = tt
numbers_differ a (suc n) = (above a (a + 1) n (omega arith), numbers_differ (a + 1) n)
  where
    above : (i b n : ℕ) → i < b → AllByRecursion (λ j. ¬ (i ≡ j)) (range_with_len b n)
    above i b zero l = tt
    above i b (suc n) l = ((λ e. omega arith), above i (b + 1) n (omega arith))

-- ---------- rising bidders ----------

same_lists : (v w : List Choice) → same_choices v w ≡ true → v ≡ w
same_lists [] [] h = refl
same_lists [] (d ∷ w) h = absurd (both_ways false refl h)
same_lists (c ∷ v) [] h = absurd (both_ways false refl h)
same_lists (c ∷ v) (d ∷ w) h =
    let parts = and_parts ((c.bidder == d.bidder) && (c.bid == d.bid)) (same_choices v w) h in
    let of = and_parts (c.bidder == d.bidder) (c.bid == d.bid) parts.0 in
    let bidder = eqb-true c.bidder d.bidder of.0 in
    let bid = eqb-true c.bid d.bid of.1 in
    let first : c ≡ d = ap₂ (λ (b j : ℕ). let x : Choice = record { bidder = b; bid = j } in x) bidder bid in
    ap₂ (λ (x : Choice) (xs : List Choice). x ∷ xs) first (same_lists v w parts.1)

-- lists of rising bidders with the same choices are the same
rising_same : (v w : List Choice) → HasRisingBidders v → HasRisingBidders w → IsPermutation v w → v ≡ w
rising_same v w h k moved = ⊎_elim
    (λ same. same_lists v w same)
    (λ differ. absurd (others_differ v w h k differ moved))
    (cases_Bool (same_choices v w))

-- ---------- places ----------

module _ (lots : Lots) (book : Book) (group : ℕ → Bool) where
  abbrev pub IsKept : Choice → Type 0
  IsKept c = is_kept_choice lots book group c ≡ true

  -- the bid d stands in for c
  pub record IsStandIn (c d : Choice) : Type 0 where
    pub bidder : d.bidder ≡ c.bidder
    pub bid : Bid
    pub stands : bid_at (form_of book c.bidder) d.bid ≡ Some bid
    pub dropped : is_kept lots (form_of book c.bidder) bid ≡ false
    pub covered : cover lots (form_of book c.bidder) bid ≡ Some c.bid
    pub instead : Bid
    pub there : bid_at (form_of book c.bidder) c.bid ≡ Some instead
    pub kept : is_kept lots (form_of book c.bidder) instead ≡ true
    pub same_net : net lots instead ≡ net lots bid
    pub smaller : is_within instead.package bid.package ≡ true

  -- a winner's kept bid, and what is in its place
  pub record Place : Type 0 where
    pub own : Choice
    pub now : Choice
    pub kept : IsKept own
    pub is : (now ≡ own) ⊎ IsStandIn own now

  passing : (q : Bid → Bool) (o : Option Bid) → option_map_or q o false ≡ true → (x : Bid) × (o ≡ Some x) × (q x ≡ true)
  passing q None h = absurd (both_ways false refl h)
  passing q (Some x) h = (x, refl, h)

  is_first : (o : Option ℕ) (n : ℕ) → option_map_or (λ first. first == n) o false ≡ true → o ≡ Some n
  is_first None n h = absurd (both_ways false refl h)
  is_first (Some m) n h = ap (λ (k : ℕ). Some k) (eqb-true m n h)

  -- what a cover is
  record Covering (form : List Bid) (x : Bid) (number : ℕ) : Type 0 where
    bid : Bid
    there : bid_at form number ≡ Some bid
    kept : is_kept lots form bid ≡ true
    same_net : net lots bid ≡ net lots x
    smaller : is_within bid.package x.package ≡ true

  covering : (form : List Bid) (x : Bid) (number : ℕ) → cover lots form x ≡ Some number → Covering form x number
  covering form x number e =
      let w = passing (covers lots form x) (bid_at form number)
      (found_passes (λ n. option_map_or (covers lots form x) (bid_at form n) false) (range_with_len 1 (length form)) number e) in
      let y = w.0 in
      let parts = and_parts (int_eq (net lots y) (net lots x) && is_within y.package x.package) (is_kept lots form y) w.2 in
      let more = and_parts (int_eq (net lots y) (net lots x)) (is_within y.package x.package) parts.0 in
      record {
        bid = y;
        there = w.1;
        kept = parts.1;
        same_net = (Decides-int_eq (net lots y) (net lots x)).0 more.0;
        smaller = more.1;
      }

  -- a bid of the form that passes the test of stand-ins is one
  pub stand_in_is : (c : Choice) (number : ℕ)
      → option_map_or (is_stand_in lots (form_of book c.bidder) c.bid) (bid_at (form_of book c.bidder) number) false ≡ true
      → IsStandIn c (record { bidder = c.bidder; bid = number })
  stand_in_is c number h =
      let form = form_of book c.bidder in
      let w = passing (is_stand_in lots form c.bid) (bid_at form number) h in
      let parts = and_parts (not (is_kept lots form w.0)) (option_map_or (λ first. first == c.bid) (cover lots form w.0) false) w.2 in
      let covered = is_first (cover lots form w.0) c.bid parts.1 in
      let o = covering form w.0 c.bid covered in
      record {
        bidder = refl;
        bid = w.0;
        stands = w.1;
        dropped = not-true (is_kept lots form w.0) parts.0;
        covered = covered;
        instead = o.bid;
        there = o.there;
        kept = o.kept;
        same_net = o.same_net;
        smaller = o.smaller;
      }

  number_there : (form : List Bid) (n : ℕ) (x : Bid) → bid_at form n ≡ Some x → Contains (range_with_len 1 (length form)) n
  number_there form zero x e = absurd (none-some x e)
  number_there form (suc k) x e =
      let size = length-range_with_len 1 (length form) in
      let below : k < length form = slice_get_within form k x e in
      (k, omega arith, get_or-range_with_len 1 (length form) k (suc k) below ∙ (let t : 1 + k ≡ suc k = omega arith in t))

  -- and each that is one is among them
  stand_in_there : (c d : Choice) → IsStandIn c d → Contains (stand_ins lots book c) d
  stand_in_there c d s =
      let form = form_of book c.bidder in
      let q : ℕ → Bool = λ number. option_map_or (is_stand_in lots form c.bid) (bid_at form number) false in
      let first : option_map_or (λ (f : ℕ). f == c.bid) (cover lots form s.bid) false ≡ true =
      ap (λ (o : Option ℕ). option_map_or (λ (f : ℕ). f == c.bid) o false) s.covered ∙ eq-eqb c.bid c.bid refl in
      let passes : q d.bid ≡ true = ap (λ (o : Option Bid). option_map_or (is_stand_in lots form c.bid) o false) s.stands
      ∙ and_from (not (is_kept lots form s.bid)) (option_map_or (λ (f : ℕ). f == c.bid) (cover lots form s.bid) false)
      (ap not s.dropped) first in
      let there = Contains-map (λ (number : ℕ). let x : Choice = record { bidder = c.bidder; bid = number } in x)
      (filter q (range_with_len 1 (length form))) d.bid
      (Contains-filter q (range_with_len 1 (length form)) d.bid (number_there form d.bid s.bid s.stands) passes) in
      subst (λ (b : ℕ). Contains (stand_ins lots book c) (record { bidder = b; bid = d.bid })) (sym s.bidder) there

  -- ---------- variants ----------

  abbrev pub own_of : Place → Choice
  own_of p = p.own

  abbrev pub now_of : Place → Choice
  now_of p = p.now

  place_there : (p : Place) → Contains (p.own ∷ stand_ins lots book p.own) p.now
  place_there p = ⊎_elim
      (λ same. (0, omega arith, sym same))
      (λ s. let c = stand_in_there p.own p.now s in (suc c.0, (let l = c.1 in omega arith), c.2))
      p.is

  variant_there : (ps : List Place) → Contains (variants lots book (map own_of ps)) (map now_of ps)
  variant_there [] = (0, omega arith, refl)
  variant_there (p ∷ ps) = Contains-flat_map (λ (d : Choice). map (λ (others : List Choice). d ∷ others) (variants lots book (map own_of ps)))
      (p.own ∷ stand_ins lots book p.own) p.now (p.now ∷ map now_of ps) (place_there p)
      (Contains-map (λ (others : List Choice). p.now ∷ others) (variants lots book (map own_of ps)) (map now_of ps) (variant_there ps))

  -- the places of a variant
  pub record Placed (a v : List Choice) : Type 0 where
    pub places : List Place
    pub own : map own_of places ≡ a
    pub now : map now_of places ≡ v

  pub stand_ins_are : (c : Choice) → AllByRecursion (λ d. (d ≡ c) ⊎ IsStandIn c d) (stand_ins lots book c)
  stand_ins_are c =
      let q : ℕ → Bool = λ number. option_map_or (is_stand_in lots (form_of book c.bidder) c.bid) (bid_at (form_of book c.bidder) number) false in
      let numbers : List ℕ = range_with_len 1 (length (form_of book c.bidder)) in
      all_map (λ d. (d ≡ c) ⊎ IsStandIn c d) (λ number. q number ≡ true) (λ number. record { bidder = c.bidder; bid = number })
      (λ number h. inr (stand_in_is c number h)) (filter q numbers)
      (recursion_from_All (λ number. q number ≡ true) (filter q numbers) (filter_passes q numbers))

  pub all_placed : (a : List Choice) → AllByRecursion IsKept a → AllByRecursion (Placed a) (variants lots book a)
  all_placed [] k = (record { places = []; own = refl; now = refl }, tt)
  all_placed (c ∷ a) k = all_flat_map (Placed (c ∷ a)) (λ d. (d ≡ c) ⊎ IsStandIn c d) (λ d. map (λ others. d ∷ others) (variants lots book a))
      (λ d is. all_map (Placed (c ∷ a)) (Placed a) (λ others. d ∷ others)
      (λ v p. record {
        places = record { own = c; now = d; kept = k.0; is = is } ∷ p.places;
        own = ap (λ (xs : List Choice). c ∷ xs) p.own;
        now = ap (λ (xs : List Choice). d ∷ xs) p.now;
      })
      (variants lots book a) (all_placed a k.1))
      (c ∷ stand_ins lots book c) (inl refl, stand_ins_are c)

  -- ---------- what a bid in a winner's place changes ----------

  same_bidder : (p : Place) → p.now.bidder ≡ p.own.bidder
  same_bidder p = ⊎_elim (λ same. ap (λ (c : Choice). c.bidder) same) (λ s. s.bidder) p.is

  stands_now : (c d : Choice) (s : IsStandIn c d) → bid_of book d ≡ Some s.bid
  stands_now c d s = ap (λ (b : ℕ). bid_at (form_of book b) d.bid) s.bidder ∙ s.stands

  nets_are : (x y : Bid) (a b v w : ℕ) → net lots y ≡ net lots x → a ≡ x.amount → b ≡ worth lots x.package → v ≡ y.amount → w ≡ worth lots y.package
      → a + w ≡ v + b
  nets_are x y a b v w same is of_x is_y of_y = omega (arith, ints)

  same_net : (p : Place) → amount_of book p.now + weighed_choice lots.values book p.own ≡ amount_of book p.own + weighed_choice lots.values book p.now
  same_net p = ⊎_elim
      (λ (same : p.now ≡ p.own). ap (λ (c : Choice). amount_of book c + weighed_choice lots.values book p.own) same
      ∙ ap (λ (c : Choice). amount_of book p.own + weighed_choice lots.values book c) (sym same))
      (λ (s : IsStandIn p.own p.now).
      let now = stands_now p.own p.now s in
      nets_are s.bid s.instead (amount_of book p.now) (weighed_choice lots.values book p.now) (amount_of book p.own) (weighed_choice lots.values book p.own)
      s.same_net
      (ap (λ (o : Option Bid). option_map_or (λ (x : Bid). x.amount) o 0) now)
      (ap (λ (o : Option Bid). option_map_or (λ (x : Bid). weighed lots.values x.package) o 0) now)
      (ap (λ (o : Option Bid). option_map_or (λ (x : Bid). x.amount) o 0) s.there)
      (ap (λ (o : Option Bid). option_map_or (λ (x : Bid). weighed lots.values x.package) o 0) s.there))
      p.is

  lighter_at : (p : Place) (category : ℕ) → quantity_of book category p.own ≤ quantity_of book category p.now
  lighter_at p category = ⊎_elim
      (λ (same : p.now ≡ p.own). let e = ap (λ (c : Choice). quantity_of book category c) same in omega arith)
      (λ (s : IsStandIn p.own p.now).
      let now : quantity_of book category p.now ≡ slice_index s.bid.package category =
      ap (λ (o : Option Bid). option_map_or (λ (x : Bid). slice_index x.package category) o 0) (stands_now p.own p.now s) in
      let own : quantity_of book category p.own ≡ slice_index s.instead.package category =
      ap (λ (o : Option Bid). option_map_or (λ (x : Bid). slice_index x.package category) o 0) s.there in
      let less = within_at s.instead.package s.bid.package category s.smaller in
      omega arith)
      p.is

  some_is : (x : Bid) (o : Option Bid) → o ≡ Some x → is_some o ≡ true
  some_is x o e = ap (λ (p : Option Bid). is_some p) e

  kept_eligible : (c : Choice) → IsKept c → is_eligible book group c ≡ true
  kept_eligible c k =
      let parts = and_parts (not (group c.bidder)) (option_map_or (λ x. is_kept lots (form_of book c.bidder) x) (bid_of book c) false) k in
      let w = passing (λ x. is_kept lots (form_of book c.bidder) x) (bid_of book c) parts.1 in
      and_from (not (group c.bidder)) (is_some (bid_of book c)) parts.0 (some_is w.0 (bid_of book c) w.1)

  now_eligible : (p : Place) → is_eligible book group p.now ≡ true
  now_eligible p = ⊎_elim
      (λ (same : p.now ≡ p.own). ap (λ (c : Choice). is_eligible book group c) same ∙ kept_eligible p.own p.kept)
      (λ (s : IsStandIn p.own p.now).
      let parts = and_parts (not (group p.own.bidder)) (option_map_or (λ x. is_kept lots (form_of book p.own.bidder) x) (bid_of book p.own) false) p.kept in
      and_from (not (group p.now.bidder)) (is_some (bid_of book p.now)) (ap (λ (b : ℕ). not (group b)) s.bidder ∙ parts.0)
      (some_is s.bid (bid_of book p.now) (stands_now p.own p.now s)))
      p.is

  -- the same over all places
  same_counts : (ps : List Place) (b : ℕ) → count_by (λ c. c.bidder == b) (map now_of ps) ≡ count_by (λ c. c.bidder == b) (map own_of ps)
  same_counts [] b = refl
  same_counts (p ∷ ps) b =
      let s : count_by (λ c. c.bidder == b) (p.now ∷ map now_of ps) ≡ cond (p.now.bidder == b) 1 0 + count_by (λ c. c.bidder == b) (map now_of ps) =
      sum_by-cons (λ (c : Choice). cond (c.bidder == b) 1 0) p.now (map now_of ps) in
      let t : count_by (λ c. c.bidder == b) (p.own ∷ map own_of ps) ≡ cond (p.own.bidder == b) 1 0 + count_by (λ c. c.bidder == b) (map own_of ps) =
      sum_by-cons (λ (c : Choice). cond (c.bidder == b) 1 0) p.own (map own_of ps) in
      let m : ℕ = cond (p.now.bidder == b) 1 0 in
      let n : ℕ = cond (p.own.bidder == b) 1 0 in
      let e : m ≡ n = ap (λ (k : ℕ). cond (k == b) 1 0) (same_bidder p) in
      let r = same_counts ps b in
      omega arith

  same_nets : (ps : List Place) → sum_by (amount_of book) (map now_of ps) + worths lots book (map own_of ps)
      ≡ sum_by (amount_of book) (map own_of ps) + worths lots book (map now_of ps)
  same_nets [] = refl
  same_nets (p ∷ ps) =
      let s : sum_by (amount_of book) (p.now ∷ map now_of ps) ≡ amount_of book p.now + sum_by (amount_of book) (map now_of ps) =
      sum_by-cons (amount_of book) p.now (map now_of ps) in
      let t : sum_by (amount_of book) (p.own ∷ map own_of ps) ≡ amount_of book p.own + sum_by (amount_of book) (map own_of ps) =
      sum_by-cons (amount_of book) p.own (map own_of ps) in
      let u : worths lots book (p.now ∷ map now_of ps) ≡ weighed_choice lots.values book p.now + worths lots book (map now_of ps) =
      sum_by-cons (weighed_choice lots.values book) p.now (map now_of ps) in
      let v : worths lots book (p.own ∷ map own_of ps) ≡ weighed_choice lots.values book p.own + worths lots book (map own_of ps) =
      sum_by-cons (weighed_choice lots.values book) p.own (map own_of ps) in
      let e = same_net p in
      let r = same_nets ps in
      omega arith

  lighter : (ps : List Place) (category : ℕ) → sum_by (quantity_of book category) (map own_of ps) ≤ sum_by (quantity_of book category) (map now_of ps)
  lighter [] category = le_refl 0
  lighter (p ∷ ps) category =
      let s : sum_by (quantity_of book category) (p.now ∷ map now_of ps) ≡ quantity_of book category p.now + sum_by (quantity_of book category) (map now_of ps) =
      sum_by-cons (quantity_of book category) p.now (map now_of ps) in
      let t : sum_by (quantity_of book category) (p.own ∷ map own_of ps) ≡ quantity_of book category p.own + sum_by (quantity_of book category) (map own_of ps) =
      sum_by-cons (quantity_of book category) p.own (map own_of ps) in
      let e = lighter_at p category in
      let r = lighter ps category in
      omega arith

  all_now : (ps : List Place) → AllByRecursion (λ c. is_eligible book group c ≡ true) (map now_of ps)
  all_now [] = tt
  all_now (p ∷ ps) = (now_eligible p, all_now ps)

  all_own : (ps : List Place) → AllByRecursion IsKept (map own_of ps)
  all_own [] = tt
  all_own (p ∷ ps) = (p.kept, all_own ps)

  -- the winners' own bids stand in for what is in their places
  stand_in : (ps : List Place) → StandIn lots book group (map now_of ps) (map own_of ps)
  stand_in ps = record {
    fewer = λ b. let e = same_counts ps b in omega arith;
    eligible = all_agree IsKept (λ c. is_eligible book group c ≡ true) (map own_of ps) kept_eligible (all_own ps);
    no_cheaper = let e = same_nets ps in omega arith;
    lighter = lighter ps;
  }

  -- ---------- what follows is as good ----------

  pub variant_feasible : (ps : List Place) → IsFeasible lots book group (map own_of ps) → fits lots (loads lots book (map now_of ps)) ≡ true
      → IsFeasible lots book group (map now_of ps)
  variant_feasible ps f fit = record {
    one_bid_each = λ b. let e = same_counts ps b in let o = f.one_bid_each b in omega arith;
    eligible = All-from_recursion (λ c. is_eligible book group c ≡ true) (map now_of ps) (all_now ps);
    fit = fit;
  }

  same_total : (ps : List Place) → IsSized lots book → fits lots (loads lots book (map own_of ps)) ≡ true → fits lots (loads lots book (map now_of ps)) ≡ true
      → total lots book (map now_of ps) ≡ total lots book (map own_of ps)
  same_total ps sized own now =
      let t = total_is lots book (map now_of ps) sized now in
      let u = total_is lots book (map own_of ps) sized own in
      let e = same_nets ps in
      omega arith

  variant_greatest : (ps : List Place) → IsSized lots book → IsGreatest lots book group (map own_of ps)
      → fits lots (loads lots book (map now_of ps)) ≡ true → IsGreatest lots book group (map now_of ps)
  variant_greatest ps sized best fit = record {
    feasible = variant_feasible ps best.feasible fit;
    greatest = λ other f. let e = same_total ps sized best.feasible.fit fit in let g = best.greatest other f in omega arith;
  }

  award_greatest : (a v : List Choice) → IsSized lots book → IsGreatest lots book group a → Placed a v → fits lots (loads lots book v) ≡ true
      → IsGreatest lots book group v
  award_greatest a v sized best p fit = subst (IsGreatest lots book group) p.now (variant_greatest p.places sized
      (subst (IsGreatest lots book group) (sym p.own) best) (ap (λ (x : List Choice). fits lots (loads lots book x)) p.now ∙ fit))

  all_awards : (a : List Choice) → AllByRecursion IsKept a → AllByRecursion (λ v. Placed a v × (fits lots (loads lots book v) ≡ true)) (awards lots book a)
  all_awards a kept = all_filter (Placed a) (λ v. fits lots (loads lots book v)) (variants lots book a) (all_placed a kept)

  all_but_first : {X : Type 0} (P : X → Type 0) (xs : List X) → AllByRecursion P xs → AllByRecursion P (drop 1 xs)
  all_but_first P [] h = tt
  all_but_first P (x ∷ xs) h = h.1

  following_greatest : (a : List Choice) → IsSized lots book → AllByRecursion IsKept a → IsGreatest lots book group a
      → AllByRecursion (IsGreatest lots book group) (following lots book a)
  following_greatest a sized kept best = all_but_first (IsGreatest lots book group) (awards lots book a)
      (all_agree (λ v. Placed a v × (fits lots (loads lots book v) ≡ true)) (IsGreatest lots book group) (awards lots book a)
      (λ v p. award_greatest a v sized best p.0 p.1) (all_awards a kept))

  -- ---------- each of greatest total follows ----------

  find_place : {X : Type 0} (P : X → Type 0) (xs : List X) (x : X) → Contains xs x → P x → Any P xs
  find_place P xs x c p = (c.0, x, c.1, c.2, p)

  -- the award is the first of its variants
  first_variant : (a : List Choice) → (others : List (List Choice)) × (variants lots book a ≡ a ∷ others)
  first_variant [] = ([], refl)
  first_variant (c ∷ a) =
      let r = first_variant a in
      let put : List Choice → List Choice = λ others. c ∷ others in (
        map put r.0 ++ flat_map (λ d. map (λ others. d ∷ others) (variants lots book a)) (stand_ins lots book c),
        ap (λ (vs : List (List Choice)). map put vs ++ flat_map (λ d. map (λ others. d ∷ others) (variants lots book a)) (stand_ins lots book c)) r.1,
      )

  -- and of its awards
  first_award : (a : List Choice) → fits lots (loads lots book a) ≡ true → awards lots book a ≡ a ∷ following lots book a
  first_award a fit =
      let r = first_variant a in
      let q : List Choice → Bool = λ b. fits lots (loads lots book b) in
      let is : awards lots book a ≡ a ∷ filter q r.0 = ap (λ (vs : List (List Choice)). filter q vs) r.1 ∙ rw fit refl in
      is ∙ ap (λ (vs : List (List Choice)). a ∷ drop 1 vs) (sym is)

  module _ (sized : IsSized lots book) (other : List Choice) (best : IsGreatest lots book group other) where
    module _ (d : Choice) (inside : Contains other d) (g : IsGood lots book group d) where
      rest : List Choice
      rest = remove other inside.0

      moved : IsPermutation other (d ∷ rest)
      unfolding rest
      moved = IsPermutation-remove other inside.0 d inside.1 (sym inside.2)

      feasible : IsFeasible lots book group (d ∷ rest)
      feasible = feasible_permuted lots book group other (d ∷ rest) moved best.feasible

      no_greater : (b : List Choice) → IsFeasible lots book group b → total lots book b ≤ total lots book (d ∷ rest)
      no_greater b f = let e = total_permuted lots book other (d ∷ rest) moved in let h = best.greatest b f in omega arith

      itself : StandIn lots book group rest rest
      itself = record {
        fewer = λ b. le_refl _;
        eligible = (recursion_from_All (λ x. is_eligible book group x ≡ true) (d ∷ rest) feasible.eligible).1;
        no_cheaper = le_refl _;
        lighter = λ category. le_refl _;
      }

      amount_is : amount_of book d ≡ g.bid.amount
      amount_is = ap (λ (o : Option Bid). option_map_or (λ (x : Bid). x.amount) o 0) g.stands

      worth_is : weighed_choice lots.values book d ≡ worth lots g.bid.package
      worth_is = ap (λ (o : Option Bid). option_map_or (λ (x : Bid). weighed lots.values x.package) o 0) g.stands

      -- without a bid whose net is below 0 the total would be greater
      not_below : net lots g.bid <ℤ pos 0 → ⊥
      not_below less =
          let r = stand_in_without lots book group d rest rest g less itself in
          let f' = stand_in_feasible lots book group (d ∷ rest) rest feasible r in
          let amount = amount_is in
          let worth_is' = worth_is in
          let low : g.bid.amount < worth lots g.bid.package = omega (arith, ints) in
          let s : sum_by (amount_of book) (d ∷ rest) ≡ amount_of book d + sum_by (amount_of book) rest = sum_by-cons (amount_of book) d rest in
          let w : worths lots book (d ∷ rest) ≡ weighed_choice lots.values book d + worths lots book rest =
          sum_by-cons (weighed_choice lots.values book) d rest in
          let t = total_is lots book (d ∷ rest) sized feasible.fit in
          let t' = total_is lots book rest sized f'.fit in
          let h = no_greater rest f' in
          omega arith

      -- and so it would be with a kept bid of a greater net
      not_above : (k : KeptInstead lots (form_of book d.bidder) g.bid) → net lots g.bid <ℤ net lots k.bid → ⊥
      not_above k more =
          let c : Choice = record { bidder = d.bidder; bid = k.number } in
          let r : StandIn lots book group (d ∷ rest) (c ∷ rest) = stand_in_with lots book group d rest rest g k itself in
          let f' = stand_in_feasible lots book group (d ∷ rest) (c ∷ rest) feasible r in
          let amount = amount_is in
          let worth_is' = worth_is in
          let amount' : amount_of book c ≡ k.bid.amount = ap (λ (o : Option Bid). option_map_or (λ (x : Bid). x.amount) o 0) k.stands in
          let worth' : weighed_choice lots.values book c ≡ worth lots k.bid.package =
          ap (λ (o : Option Bid). option_map_or (λ (x : Bid). weighed lots.values x.package) o 0) k.stands in
          let gain : g.bid.amount + worth lots k.bid.package < k.bid.amount + worth lots g.bid.package = omega (arith, ints) in
          let s : sum_by (amount_of book) (d ∷ rest) ≡ amount_of book d + sum_by (amount_of book) rest = sum_by-cons (amount_of book) d rest in
          let s' : sum_by (amount_of book) (c ∷ rest) ≡ amount_of book c + sum_by (amount_of book) rest = sum_by-cons (amount_of book) c rest in
          let w : worths lots book (d ∷ rest) ≡ weighed_choice lots.values book d + worths lots book rest =
          sum_by-cons (weighed_choice lots.values book) d rest in
          let w' : worths lots book (c ∷ rest) ≡ weighed_choice lots.values book c + worths lots book rest =
          sum_by-cons (weighed_choice lots.values book) c rest in
          let t = total_is lots book (d ∷ rest) sized feasible.fit in
          let t' = total_is lots book (c ∷ rest) sized f'.fit in
          let h = no_greater (c ∷ rest) f' in
          omega arith

      same_as : (k : KeptInstead lots (form_of book d.bidder) g.bid) → net lots k.bid ≡ net lots g.bid
      same_as k =
          let least : net lots g.bid ≤ℤ net lots k.bid = le_from (net lots g.bid) (net lots k.bid) k.no_cheaper in
          let none = not_above k in
          both_bounds (net lots g.bid) (net lots k.bid) least none
        where
          both_bounds : (x y : ℤ) → x ≤ℤ y → (x <ℤ y → ⊥) → y ≡ x
          both_bounds x y l none = ⊎_elim
              (λ e. e)
              (λ more. absurd (none more))
              (let split : (y ≡ x) ⊎ (x <ℤ y) = by_order x y l in split)
            where
              by_order : (x y : ℤ) → x ≤ℤ y → (y ≡ x) ⊎ (x <ℤ y)
              by_order x y l = ⊎_elim
                  (λ t. inl (let u = le_from y x t in omega (arith, ints)))
                  (λ t. inr (lt_from y x t))
                  (cases_Bool (int_le y x))

      -- a bid that isn't kept has a cover
      covered_at : is_kept lots (form_of book d.bidder) g.bid ≡ false → KeptInstead lots (form_of book d.bidder) g.bid
          → (p : Place) × (p.now ≡ d)
      covered_at dropped k =
          let form = form_of book d.bidder in
          let passes : covers lots form g.bid k.bid ≡ true = and_from (int_eq (net lots k.bid) (net lots g.bid) && is_within k.bid.package g.bid.package)
          (is_kept lots form k.bid)
          (and_from (int_eq (net lots k.bid) (net lots g.bid)) (is_within k.bid.package g.bid.package)
          ((Decides-int_eq (net lots k.bid) (net lots g.bid)).1 (same_as k)) k.smaller) k.kept in
          let first = found_some (λ number. option_map_or (covers lots form g.bid) (bid_at form number) false) (range_with_len 1 (length form)) k.number
          (number_there form k.number k.bid k.stands)
          (ap (λ (o : Option Bid). option_map_or (covers lots form g.bid) o false) k.stands ∙ passes) in
          let o = covering form g.bid first.0 first.1 in (
            record {
              own = record { bidder = d.bidder; bid = first.0 };
              now = d;
              kept = and_from (not (group d.bidder)) (option_map_or (λ x. is_kept lots form x) (bid_at form first.0) false) g.outside
                  (ap (λ (b : Option Bid). option_map_or (λ x. is_kept lots form x) b false) o.there ∙ o.kept);
              is = inr (record {
                bidder = refl;
                bid = g.bid;
                stands = g.stands;
                dropped = dropped;
                covered = first.1;
                instead = o.bid;
                there = o.there;
                kept = o.kept;
                same_net = o.same_net;
                smaller = o.smaller;
              });
            },
            refl,
          )

      place_for : (p : Place) × (p.now ≡ d)
      place_for = ⊎_elim
          (λ kept. (record { own = d; now = d; kept = kept; is = inl refl }, refl))
          (λ not_kept.
          let dropped : is_kept lots (form_of book d.bidder) g.bid ≡ false = false_from_ne_true (is_kept lots (form_of book d.bidder) g.bid)
          (λ e. both_ways (is_kept_choice lots book group d) not_kept
          (and_from (not (group d.bidder)) (option_map_or (λ x. is_kept lots (form_of book d.bidder) x) (bid_of book d) false) g.outside
          (ap (λ (o : Option Bid). option_map_or (λ x. is_kept lots (form_of book d.bidder) x) o false) g.stands ∙ e))) in
          ⊎_elim (λ less. absurd (not_below less)) (λ k. covered_at dropped k)
          (keeps_the_best lots (form_of book d.bidder) d.bid g.bid g.stands g.fits))
          (cases_Bool (is_kept_choice lots book group d))

    places_for : (xs : List Choice) → AllByRecursion (λ d. Contains other d × IsGood lots book group d) xs → (ps : List Place) × (map now_of ps ≡ xs)
    places_for [] h = ([], refl)
    places_for (d ∷ xs) h =
        let p = place_for d h.0.0 h.0.1 in
        let r = places_for xs h.1 in
        (p.0 ∷ r.0, ap₂ (λ (c : Choice) (cs : List Choice). c ∷ cs) p.1 r.1)

    all_places : (ps : List Place) × (map now_of ps ≡ other)
    all_places =
        let g = good lots book group sized other best.feasible in
        places_for other (recursion_from_All (λ d. Contains other d × IsGood lots book group d) other
        (λ k d l. (All-contains_itself other k d l, g k d l)))

  module _ (sized : IsSized lots book) (listed : List (List Choice)) (known : AreAllKept lots book group listed) where
    -- an award of the list, with the places that lead to another one
    here_or_after : (a other : List Choice) (qs : List Place) → Contains listed a → fits lots (loads lots book a) ≡ true → map own_of qs ≡ a
        → IsPermutation (map now_of qs) other → fits lots (loads lots book (map now_of qs)) ≡ true
        → Any (λ b. IsPermutation b other) (with_following lots book listed)
    here_or_after a other qs inside fit own same fit_now =
        let among : Contains (awards lots book a) (map now_of qs) = Contains-filter (λ b. fits lots (loads lots book b)) (variants lots book a) (map now_of qs)
        (subst (λ (x : List Choice). Contains (variants lots book x) (map now_of qs)) own (variant_there qs)) fit_now in
        first_or_later (subst (λ (vs : List (List Choice)). Contains vs (map now_of qs)) (first_award a fit) among)
      where
        first_or_later : Contains (a ∷ following lots book a) (map now_of qs) → Any (λ b. IsPermutation b other) (with_following lots book listed)
        first_or_later (zero, l, e) = find_place (λ b. IsPermutation b other) (with_following lots book listed) a
            (Contains-append_left listed (flat_map (following lots book) listed) a inside)
            (subst (λ (x : List Choice). IsPermutation x other) (sym e) same)
        first_or_later (suc k, l, e) = find_place (λ b. IsPermutation b other) (with_following lots book listed) (map now_of qs)
            (Contains-append_right listed (flat_map (following lots book) listed) (map now_of qs)
            (Contains-flat_map (following lots book) listed a (map now_of qs) inside (k, omega arith, e)))
            same

    every_one : (other : List Choice) → IsGreatest lots book group other → Any (λ b. IsPermutation b other) (with_following lots book listed)
    every_one other best =
        let p = all_places sized other best in
        let ps = p.0 in
        let f : IsFeasible lots book group (map now_of ps) = subst (IsFeasible lots book group) (sym p.1) best.feasible in
        let r = stand_in ps in
        let f' = stand_in_feasible lots book group (map now_of ps) (map own_of ps) f r in
        let no_less = stand_in_total lots book group (map now_of ps) (map own_of ps) sized f r in
        let own_best : IsGreatest lots book group (map own_of ps) = record {
          feasible = f';
          greatest = λ third g.
              let e = ap (λ (x : List Choice). total lots book x) p.1 in
              let h = best.greatest third g in
              omega arith;
        } in
        let k = known.all (map own_of ps) own_best (All-from_recursion IsKept (map own_of ps) (all_own ps)) in
        let a = k.1 in
        let q = lifted own_of ps a (IsPermutation-sym a (map own_of ps) k.4) in
        let same : IsPermutation (map now_of q.moved) other = subst (λ (x : List Choice). IsPermutation (map now_of q.moved) x) p.1
        (IsPermutation-sym (map now_of ps) (map now_of q.moved) (IsPermutation-map now_of ps q.moved q.same)) in
        let fit : fits lots (loads lots book a) ≡ true =
        (feasible_permuted lots book group (map own_of ps) a (IsPermutation-sym a (map own_of ps) k.4) f').fit in
        let fit_now : fits lots (loads lots book (map now_of q.moved)) ≡ true =
        ap (λ (x : List ℕ). fits lots x) (sym (loads_permuted lots book (map now_of q.moved) other same)) ∙ best.feasible.fit in
        here_or_after a other q.moved (k.0, k.2, k.3) fit q.is same fit_now

  -- ---------- each once ----------

  rising_now : (ps : List Place) → HasRisingBidders (map own_of ps) → HasRisingBidders (map now_of ps)
  rising_now [] h = tt
  rising_now (p ∷ ps) h = (above p ps h.0, rising_now ps h.1)
    where
      above : (p : Place) (qs : List Place) → AllByRecursion (λ later. p.own.bidder < later.bidder) (map own_of qs)
          → AllByRecursion (λ later. p.now.bidder < later.bidder) (map now_of qs)
      above p [] k = tt
      above p (q ∷ qs) k = ((let a = same_bidder p in let b = same_bidder q in let l = k.0 in omega arith), above p qs k.1)

  -- a bid that isn't kept stands in for one bid alone
  not_itself : (c d : Choice) → IsStandIn c d → IsKept d → ⊥
  not_itself c d s kept =
      let parts = and_parts (not (group d.bidder)) (option_map_or (λ x. is_kept lots (form_of book d.bidder) x) (bid_of book d) false) kept in
      let here : is_kept lots (form_of book d.bidder) s.bid ≡ true =
      sym (ap (λ (o : Option Bid). option_map_or (λ x. is_kept lots (form_of book d.bidder) x) o false) (stands_now c d s)) ∙ parts.1 in
      both_ways (is_kept lots (form_of book c.bidder) s.bid) s.dropped
      (ap (λ (b : ℕ). is_kept lots (form_of book b) s.bid) (sym s.bidder) ∙ here)

  same_own : (p q : Place) → p.now ≡ q.now → p.own ≡ q.own
  same_own p q same = ⊎_elim
      (λ e. ⊎_elim
      (λ f. sym e ∙ same ∙ f)
      (λ s. absurd (not_itself q.own q.now s (subst IsKept (sym e ∙ same) p.kept)))
      q.is)
      (λ r. ⊎_elim
      (λ f. absurd (not_itself p.own p.now r (subst IsKept (sym f ∙ sym same) q.kept)))
      (λ s. both r s)
      q.is)
      p.is
    where
      both : IsStandIn p.own p.now → IsStandIn q.own q.now → p.own ≡ q.own
      both r s =
          let bidder : p.own.bidder ≡ q.own.bidder = sym r.bidder ∙ ap (λ (c : Choice). c.bidder) same ∙ s.bidder in
          let bid : r.bid ≡ s.bid = same_Some r.bid s.bid (sym (stands_now p.own p.now r) ∙ ap (λ (c : Choice). bid_of book c) same ∙ stands_now q.own q.now s)
          in
          let number : p.own.bid ≡ q.own.bid = same_Some p.own.bid q.own.bid
          (sym r.covered ∙ ap₂ (λ (b : ℕ) (x : Bid). cover lots (form_of book b) x) bidder bid ∙ s.covered) in
          ap₂ (λ (b j : ℕ). let x : Choice = record { bidder = b; bid = j } in x) bidder number

  same_owns : (ps qs : List Place) → map now_of ps ≡ map now_of qs → map own_of ps ≡ map own_of qs
  same_owns [] [] e = refl
  same_owns [] (q ∷ qs) e = absurd cc
  same_owns (p ∷ ps) [] e = absurd cc
  same_owns (p ∷ ps) (q ∷ qs) e =
      let head : p.now ≡ q.now = cc in
      let rest : map now_of ps ≡ map now_of qs = cc in
      ap₂ (λ (x : Choice) (xs : List Choice). x ∷ xs) (same_own p q head) (same_owns ps qs rest)

  -- variants with the same choices are of awards with the same choices
  same_awards : (a b v w : List Choice) → Placed a v → Placed b w → IsPermutation v w → IsPermutation a b
  same_awards a b v w p q moved =
      let l = lifted now_of p.places w (subst (λ (x : List Choice). IsPermutation x w) (sym p.now) moved) in
      let owns : map own_of l.moved ≡ b = same_owns l.moved q.places (l.is ∙ sym q.now) ∙ q.own in
      let r = IsPermutation-map own_of p.places l.moved l.same in
      subst (λ (x : List Choice). IsPermutation x b) p.own (subst (λ (x : List Choice). IsPermutation (map own_of p.places) x) owns r)

  own_bids : (ps : List Place) → AllByRecursion IsKept (map now_of ps) → map now_of ps ≡ map own_of ps
  own_bids [] h = refl
  own_bids (p ∷ ps) h = ap₂ (λ (x : Choice) (xs : List Choice). x ∷ xs)
      (⊎_elim (λ same. same) (λ s. absurd (not_itself p.own p.now s h.0)) p.is)
      (own_bids ps h.1)

  stand_ins_differ : (c : Choice) → IsKept c → EachPair (λ d e. ¬ (d ≡ e)) (c ∷ stand_ins lots book c)
  stand_ins_differ c kept =
      let q : ℕ → Bool = λ number. option_map_or (is_stand_in lots (form_of book c.bidder) c.bid) (bid_at (form_of book c.bidder) number) false in
      let numbers : List ℕ = range_with_len 1 (length (form_of book c.bidder)) in (
        all_map (λ d. ¬ (c ≡ d)) (λ number. q number ≡ true) (λ number. record { bidder = c.bidder; bid = number })
            (λ number h e. not_itself c (record { bidder = c.bidder; bid = number }) (stand_in_is c number h) (subst IsKept e kept))
            (filter q numbers) (recursion_from_All (λ number. q number ≡ true) (filter q numbers) (filter_passes q numbers)),
        pairs_map (λ (i j : ℕ). ¬ (i ≡ j)) (λ (d e : Choice). ¬ (d ≡ e)) (λ number. record { bidder = c.bidder; bid = number })
            (λ i j differ e. differ (ap (λ (d : Choice). d.bid) e)) (filter q numbers)
            (pairs_filter (λ (i j : ℕ). ¬ (i ≡ j)) q numbers (numbers_differ 1 (length (form_of book c.bidder)))),
      )

  head_of : List Choice → Choice → Choice
  head_of [] d = d
  head_of (c ∷ v) d = c

  variants_differ : (a : List Choice) → AllByRecursion IsKept a → EachPair (λ v w. ¬ (v ≡ w)) (variants lots book a)
  variants_differ [] k = (tt, tt)
  variants_differ (c ∷ a) k = pairs_flat_map (λ (v w : List Choice). ¬ (v ≡ w)) (λ (d e : Choice). ¬ (d ≡ e)) (λ d. Unit {0})
      (λ (d : Choice) (v : List Choice). (others : List Choice) × (v ≡ d ∷ others))
      (λ d. map (λ others. d ∷ others) (variants lots book a))
      (λ d u. pairs_map (λ (v w : List Choice). ¬ (v ≡ w)) (λ (v w : List Choice). ¬ (v ≡ w)) (λ others. d ∷ others)
      (λ v w differ e. differ cc) (variants lots book a) (variants_differ a k.1))
      (λ d u. all_map (λ (v : List Choice). (others : List Choice) × (v ≡ d ∷ others)) (λ v. Unit {0}) (λ others. d ∷ others) (λ v t. (v, refl))
      (variants lots book a) (all_units (variants lots book a)))
      (λ d e v w differ p q same. differ (let heads : d ∷ p.0 ≡ e ∷ q.0 = sym p.1 ∙ same ∙ q.1 in cc))
      (c ∷ stand_ins lots book c) (all_units (c ∷ stand_ins lots book c)) (stand_ins_differ c k.0)
    where
      all_units : {X : Type 0} (xs : List X) → AllByRecursion (λ (x : X). Unit {0}) xs
      all_units [] = tt
      all_units (x ∷ xs) = (tt, all_units xs)

  awards_apart : (a : List Choice) → AllByRecursion IsKept a → HasRisingBidders a → AreApart (awards lots book a)
  awards_apart a kept rising = pairs_filter (λ (v w : List Choice). ¬ IsPermutation v w) (λ b. fits lots (loads lots book b)) (variants lots book a)
      (pairs_from (λ (v w : List Choice). ¬ IsPermutation v w) (Placed a) (λ (v w : List Choice). ¬ (v ≡ w)) (variants lots book a)
      (λ v w p q differ moved. differ (rising_same v w (rises v p) (rises w q) moved))
      (all_placed a kept) (variants_differ a kept))
    where
      rises : (v : List Choice) → Placed a v → HasRisingBidders v
      rises v p = subst HasRisingBidders p.now (rising_now p.places (subst HasRisingBidders (sym p.own) rising))

  pairs_but_first : {X : Type 0} (R : X → X → Type 0) (xs : List X) → EachPair R xs → EachPair R (drop 1 xs)
  pairs_but_first R [] h = tt
  pairs_but_first R (x ∷ xs) h = h.1

  -- each that follows is another variant
  IsAfter : List Choice → List Choice → Type 0
  IsAfter a v = Placed a v × ¬ (v ≡ a)

  after_all : (a : List Choice) → AllByRecursion IsKept a → HasRisingBidders a → fits lots (loads lots book a) ≡ true
      → AllByRecursion (IsAfter a) (following lots book a)
  unfolding IsAfter
  after_all a kept rising fit =
      let placed = all_but_first (Placed a) (awards lots book a) (all_agree (λ v. Placed a v × (fits lots (loads lots book v) ≡ true)) (Placed a)
      (awards lots book a) (λ v p. p.0) (all_awards a kept)) in
      let apart = subst (λ (vs : List (List Choice)). AreApart vs) (first_award a fit) (awards_apart a kept rising) in
      joined (following lots book a) placed apart.0
    where
      joined : (vs : List (List Choice)) → AllByRecursion (Placed a) vs → AllByRecursion (λ v. ¬ IsPermutation a v) vs
          → AllByRecursion (λ v. Placed a v × ¬ (v ≡ a)) vs
      joined [] p n = tt
      joined (v ∷ vs) p n = (
        (p.0, (λ e. n.0 (subst (λ (x : List Choice). IsPermutation a x) (sym e) (IsPermutation-refl a)))),
        joined vs p.1 n.1,
      )

  -- what is known of each award of a list
  record IsListed (a : List Choice) : Type 0 where
    best : IsGreatest lots book group a
    kept : AllByRecursion IsKept a
    rising : HasRisingBidders a

  all_listed : (listed : List (List Choice)) → AllByRecursion (IsGreatest lots book group) listed
      → AllByRecursion (All IsKept) listed → AllByRecursion HasRisingBidders listed → AllByRecursion IsListed listed
  all_listed [] g k r = tt
  all_listed (a ∷ listed) g k r = (
    record { best = g.0; kept = recursion_from_All IsKept a k.0; rising = r.0 },
    all_listed listed g.1 k.1 r.1,
  )

  module _ (sized : IsSized lots book) (listed : List (List Choice)) (known : AreAllKept lots book group listed) where
    each_listed : AllByRecursion IsListed listed
    each_listed = all_listed listed known.greatest known.kept known.rising

    all_apart : AreApart (with_following lots book listed)
    unfolding IsAfter
    all_apart = pairs_append (λ (a b : List Choice). ¬ IsPermutation a b) listed (flat_map (following lots book) listed) known.apart
        (pairs_flat_map (λ (v w : List Choice). ¬ IsPermutation v w) (λ (a b : List Choice). ¬ IsPermutation a b) IsListed IsAfter (following lots book)
        (λ a l. pairs_but_first (λ (v w : List Choice). ¬ IsPermutation v w) (awards lots book a) (awards_apart a l.kept l.rising))
        (λ a l. after_all a l.kept l.rising l.best.feasible.fit)
        (λ a b v w differ p q moved. differ (same_awards a b v w p.0 q.0 moved))
        listed each_listed known.apart)
        (all_agree IsListed (λ a. AllByRecursion (λ v. ¬ IsPermutation a v) (flat_map (following lots book) listed)) listed
        (λ a l. all_flat_map (λ v. ¬ IsPermutation a v) IsListed (following lots book)
        (λ b m. all_agree (IsAfter b) (λ v. ¬ IsPermutation a v) (following lots book b)
        (λ v p moved. p.1 (sym p.0.now ∙ own_bids p.0.places (subst (AllByRecursion IsKept) (sym p.0.now)
        (recursion_from_All IsKept v (All-permutation IsKept a v moved (All-from_recursion IsKept a l.kept)))) ∙ p.0.own ∙ refl))
        (after_all b m.kept m.rising m.best.feasible.fit))
        listed each_listed)
        each_listed)

    all_best : AllByRecursion (IsGreatest lots book group) (with_following lots book listed)
    all_best = all_append (IsGreatest lots book group) listed (flat_map (following lots book) listed) known.greatest
        (all_flat_map (IsGreatest lots book group) IsListed (following lots book) (λ a l. following_greatest a sized l.kept l.best) listed each_listed)

pub following_are_greatest : FollowingAreGreatest
following_are_greatest lots book group a sized kept best = following_greatest lots book group a sized
    (recursion_from_All (λ c. is_kept_choice lots book group c ≡ true) a kept) best

pub following_are_the_rest : FollowingAreTheRest
following_are_the_rest lots book group listed sized known = record {
  greatest = all_best lots book group sized listed known;
  all = every_one lots book group sized listed known;
  apart = all_apart lots book group sized listed known;
}
