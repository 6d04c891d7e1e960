-- A bid in a winner's place: what all take with it, and the awards that there are.
use Rattle.std.proofs.Common.{◌≡◌, ℕ, zero, suc, ◌+◌, ◌<◌, ◌≤◌, Bool, true, false, ◌&&◌, List, [], ◌∷◌, ◌++◌, ◌⊎◌, inl, ⊎_elim}
use Rattle.std.proofs.Common.{Option, Some, None, slice_get, get_or, set, take, drop, append_assoc, append-nil, add-one, drop_of_length-le, le-leb, slice_index, length, map, refl, sym, ap, ap₂, subst, ◌∙◌, arith}
use Rattle.std.specs.Prelude.{All, sum_by, filter, flat_map}
use Rattle.std.specs.List.{AllByRecursion, range_with_len}
use Rattle.std.specs.Option.{option_map_or}
use Rattle.std.specs.Ordering.{int_eq}
use Rattle.std.proofs.Math.Bool.{and-false, and-true}
use Rattle.std.proofs.lemmas.Bool.{and_from, both_ways, cond-true, false_from_ne_true}
use Rattle.std.proofs.lemmas.Bool.Decides.{Decides-int_eq}
use Rattle.std.proofs.lemmas.List.{flat_map_more, map-append, take-append-drop, take_more}
use Rattle.std.proofs.lemmas.List.Elements.{All-drop, All-from_recursion, All-take, recursion_from_All}
use Rattle.std.proofs.lemmas.List.{length-take, take-append-le, take-take, take_all}
use Rattle.std.proofs.lemmas.List.Sums.{sum_by-append, sum_by-cons}
use Rattle.std.proofs.lemmas.List.Concat.{flat_map-append}
use Rattle.std.proofs.lemmas.List.FromFn.{fill_by_all}
use Rattle.std.proofs.lemmas.List.Sums.{sum_by-set, get_or-le-sum_by}
use Rattle.std.proofs.lemmas.Option.{none-some, same_Some}
use Rattle.auction_terms.specs.declared.bids.Bid.{Bid}
use Rattle.auction_terms.specs.declared.bids.Choice.{Choice}
use Rattle.auction_terms.specs.Packages.{Lots, fits, is_within, left}
use Rattle.auction_terms.specs.Domination.{net}
use Rattle.auction_terms.specs.Allocations.{Book, form_of, bid_at, bid_of, quantity_of, loads, IsFeasible, IsSized}
use Rattle.auction_terms.proofs.AllocationFacts.{loads_at, loads_length}
use Rattle.auction_terms.proofs.PackageFacts.{fits_smaller, within_at}
use Rattle.outcome.specs.Following.{awards, stand_ins, is_stand_in, variants}
use Rattle.outcome.specs.PointAllocation.{HasRisingBidders}
use Rattle.outcome.specs.inside.Following.{both_packages, each_put, numbers_passing, options, partly, replaces}
use Rattle.auction_terms.proofs.OfferFacts.{all_agree, all_filter}
use Rattle.outcome.proofs.FollowFacts.{IsKept, IsStandIn, Placed, all_flat_map, all_map, all_placed, now_of, own_of, stand_in_is}
use Rattle.outcome.proofs.FollowFacts.{stand_ins_are, variant_feasible}
use Rattle.outcome.proofs.QuantityFacts.{both-at, both-length, left-at, left-length}

-- ---- rising bidders

above_set : (b : ℕ) (a : List Choice) (k : ℕ) (d : Choice) → b < d.bidder → AllByRecursion (λ later. b < later.bidder) a
    → AllByRecursion (λ later. b < later.bidder) (set a k d)
above_set b [] k d l h = tt
above_set b (c ∷ a) zero d l h = (l, h.1)
above_set b (c ∷ a) (suc k) d l h = (h.0, above_set b a k d l h.1)

above_at : (b : ℕ) (a : List Choice) (k : ℕ) (d : Choice) → k < length a → AllByRecursion (λ later. b < later.bidder) a → b < (get_or a k d).bidder
above_at b [] k d l h = absurd (omega arith)
above_at b (c ∷ a) zero d l h = h.0
above_at b (c ∷ a) (suc k) d l h = above_at b a k d (omega arith) h.1

pub rising_set : (a : List Choice) (k : ℕ) (d : Choice) → k < length a → (get_or a k d).bidder ≡ d.bidder → HasRisingBidders a → HasRisingBidders (set a k d)
rising_set [] k d l same h = absurd (omega arith)
rising_set (c ∷ a) zero d l same h = (all_over a h.0, h.1)
  where
    all_over : (xs : List Choice) → AllByRecursion (λ later. c.bidder < later.bidder) xs → AllByRecursion (λ later. d.bidder < later.bidder) xs
    all_over [] k = tt
    all_over (x ∷ xs) k = ((let m = k.0 in omega arith), all_over xs k.1)
rising_set (c ∷ a) (suc k) d l same h =
    let above = above_at c.bidder a k d (omega arith) h.0 in
    (above_set c.bidder a k d (omega arith) h.0, rising_set a k d (omega arith) same h.1)

-- ---- what is read of a list

pub at_get : {X : Type 0} (a : List X) (k : ℕ) (w d : X) → slice_get a k ≡ Some w → (k < length a) × (get_or a k d ≡ w)
at_get [] k w d e = absurd (none-some w e)
at_get (x ∷ a) zero w d e = (omega arith, same_Some x w e)
at_get (x ∷ a) (suc k) w d e = let r = at_get a k w d e in ((let l = r.0 in omega arith), r.1)

set_same : {X : Type 0} (a : List X) (k : ℕ) (w : X) → slice_get a k ≡ Some w → set a k w ≡ a
set_same [] k w e = refl
set_same {X} (x ∷ a) zero w e = ap (λ (y : X). y ∷ a) (sym (same_Some x w e))
set_same {X} (x ∷ a) (suc k) w e = ap (λ (xs : List X). x ∷ xs) (set_same a k w e)

map_map : {X Y Z : Type 0} (f : Y → Z) (g : X → Y) (xs : List X) → map f (map g xs) ≡ map (λ x. f (g x)) xs
map_map f g [] = refl
map_map {X} {Y} {Z} f g (x ∷ xs) = ap (λ (zs : List Z). f (g x) ∷ zs) (map_map f g xs)

-- those that pass both tests
module _ {X Y : Type 0} (p : Y → Bool) (g : X → Y) (q r : X → Bool) (agree : (x : X) → r x ≡ (q x && p (g x))) where
  picked : (xs : List X) → filter p (map g (filter q xs)) ≡ map g (filter r xs)
  picked [] = refl
  picked (x ∷ xs) = picked_more x xs (q x) (p (g x)) refl refl (picked xs)
    where
      picked_more : (x : X) (xs : List X) (s t : Bool) → q x ≡ s → p (g x) ≡ t → filter p (map g (filter q xs)) ≡ map g (filter r xs)
          → filter p (map g (filter q (x ∷ xs))) ≡ map g (filter r (x ∷ xs))
      picked_more x xs true true e f h = rw (agree x, e) (rw f (ap (λ (ys : List Y). g x ∷ ys) h))
      picked_more x xs true false e f h = rw (agree x, e) (rw f h)
      picked_more x xs false t e f h = rw (agree x, e) h

-- ---- a bid in the place of a winner's

module _ (lots : Lots) (book : Book) (sized : IsSized lots book) (a : List Choice) (w : Choice) (k : ℕ) (at : slice_get a k ≡ Some w)
    (won : Bid) (wins : bid_of book w ≡ Some won) where
  within : k < length a
  within = (at_get a k w w at).0

  module _ (c : Choice) (x : Bid) (stands : bid_of book c ≡ Some x) where
    put : (g : Choice → ℕ) → sum_by g (set a k c) + g w ≡ sum_by g a + g c
    put g =
        let s = sum_by-set g a k c w within in
        let e : g (get_or a k w) ≡ g w = ap g (at_get a k w w at).1 in
        omega arith

    quantity_won : (category : ℕ) → quantity_of book category w ≡ get_or won.package category 0
    quantity_won category = ap (λ (o : Option Bid). option_map_or (λ (y : Bid). get_or y.package category 0) o 0) wins

    quantity_here : (category : ℕ) → quantity_of book category c ≡ get_or x.package category 0
    quantity_here category = ap (λ (o : Option Bid). option_map_or (λ (y : Bid). get_or y.package category 0) o 0) stands

    -- what all take with the bid in the place
    loads_put : both_packages (left (loads lots book a) won.package) x.package ≡ loads lots book (set a k c)
    loads_put =
        let size = loads_length lots book a in
        let size_won = sized w.bidder w.bid won wins in
        let size_here = sized c.bidder c.bid x stands in
        let size_left = left-length (loads lots book a) won.package in
        let size_both = both-length (left (loads lots book a) won.package) x.package (omega arith) in
        fill_by_all (λ category. sum_by (quantity_of book category) (set a k c))
        (both_packages (left (loads lots book a) won.package) x.package) (length lots.supply) 0 (omega arith)
        (λ category below.
        let e = both-at (left (loads lots book a) won.package) x.package category (omega arith) (omega arith) in
        let less = left-at (loads lots book a) won.package category (omega arith) (omega arith) in
        let all = loads_at lots book a category below in
        let part = get_or-le-sum_by (quantity_of book category) a k w within in
        let mine : quantity_of book category (get_or a k w) ≡ quantity_of book category w =
        ap (λ (d : Choice). quantity_of book category d) (at_get a k w w at).1 in
        let won_is = quantity_won category in
        let here_is = quantity_here category in
        let s = put (quantity_of book category) in
        omega arith)

  choice : ℕ → Choice
  choice number = record { bidder = w.bidder; bid = number }

  abbrev others : List ℕ
  others = left (loads lots book a) won.package

  -- the test of the code is that of the definition
  agree : (number : ℕ) → option_map_or (replaces lots (form_of book w.bidder) w.bid (net lots won) others) (bid_at (form_of book w.bidder) number) false
      ≡ (option_map_or (is_stand_in lots (form_of book w.bidder) w.bid) (bid_at (form_of book w.bidder) number) false
      && fits lots (loads lots book (set a k (record { bidder = w.bidder; bid = number }))))
  agree number = by (bid_at (form_of book w.bidder) number) refl
    where
      form : List Bid
      form = form_of book w.bidder

      by : (o : Option Bid) → bid_at (form_of book w.bidder) number ≡ o
          → option_map_or (replaces lots (form_of book w.bidder) w.bid (net lots won) others) (bid_at (form_of book w.bidder) number) false
          ≡ (option_map_or (is_stand_in lots (form_of book w.bidder) w.bid) (bid_at (form_of book w.bidder) number) false
          && fits lots (loads lots book (set a k (record { bidder = w.bidder; bid = number }))))
      by None e = rw e refl
      by (Some x) e =
          let d : Choice = record { bidder = w.bidder; bid = number } in
          let room : fits lots (both_packages others x.package) ≡ fits lots (loads lots book (set a k d)) =
          ap (λ (q : List ℕ). fits lots q) (loads_put d x e) in
          let s : Bool = is_stand_in lots (form_of book w.bidder) w.bid x in
          let i : Bool = int_eq (net lots x) (net lots won) in
          let b : Bool = fits lots (both_packages others x.package) in
          rw e (turned i b s (λ h.
          let is = stand_in_is lots book (λ b. false) w number
          (ap (λ (o : Option Bid). option_map_or (is_stand_in lots (form_of book w.bidder) w.bid) o false) e ∙ h) in
          let of_bid : is.bid ≡ x = same_Some is.bid x (sym is.stands ∙ e) in
          let of_own : is.instead ≡ won = same_Some is.instead won (sym is.there ∙ wins) in
          (Decides-int_eq (net lots x) (net lots won)).1
          (ap (λ (y : Bid). net lots y) (sym of_bid) ∙ sym is.same_net ∙ ap (λ (y : Bid). net lots y) of_own))
          ∙ ap (λ (t : Bool). s && t) room)
        where
          turned : (i b s : Bool) → (s ≡ true → i ≡ true) → ((i && b) && s) ≡ (s && b)
          turned i b true h = rw (h refl) (and-true b)
          turned i b false h = and-false (i && b)

  pub options_are : fits lots (loads lots book a) ≡ true
      → options lots book k w a ≡ a ∷ each_put a k w.bidder (numbers_passing (replaces lots (form_of book w.bidder) w.bid (net lots won) others) (form_of book w.bidder))
  options_are fit =
      let p : List Choice → Bool = λ v. fits lots (loads lots book v) in
      let q : ℕ → Bool = λ number. option_map_or (is_stand_in lots (form_of book w.bidder) w.bid) (bid_at (form_of book w.bidder) number) false in
      let r : ℕ → Bool = λ number. option_map_or (replaces lots (form_of book w.bidder) w.bid (net lots won) others) (bid_at (form_of book w.bidder) number) false in
      let numbers : List ℕ = range_with_len 1 (length (form_of book w.bidder)) in
      let g : ℕ → List Choice = λ number. set a k (record { bidder = w.bidder; bid = number }) in
      let itself : set a k w ≡ a = set_same a k w at in
      let first : p (set a k w) ≡ true = ap p itself ∙ fit in
      let rest : filter p (map (λ d. set a k d) (stand_ins lots book w)) ≡ map g (filter r numbers) =
      ap (λ (vs : List (List Choice)). filter p vs) (map_map (λ d. set a k d) (λ number. record { bidder = w.bidder; bid = number }) (filter q numbers))
      ∙ picked p g q r agree numbers in
      cond-true (p (set a k w)) (set a k w ∷ filter p (map (λ d. set a k d) (stand_ins lots book w)))
      (filter p (map (λ d. set a k d) (stand_ins lots book w))) first
      ∙ ap₂ (λ (v : List Choice) (vs : List (List Choice)). v ∷ vs) itself rest

-- ---- what is found, with what is to come

module _ {X : Type 0} (most : ℕ) where
  pub one_found : (found new rest left all : List X) (v : X) → new ≡ found ++ v ∷ [] → left ≡ v ∷ rest → take most (found ++ left) ≡ take most all
      → take most (new ++ rest) ≡ take most all
  one_found found new rest left all v is_new is_left h =
      ap (λ (xs : List X). take most (xs ++ rest)) is_new
      ∙ ap (λ (xs : List X). take most xs) (append_assoc found (v ∷ []) rest ∙ ap (λ (xs : List X). found ++ xs) (sym is_left))
      ∙ h

  pub none_found : (found new rest left all : List X) → new ≡ found → left ≡ rest → take most (found ++ left) ≡ take most all
      → take most (new ++ rest) ≡ take most all
  none_found found new rest left all is_new is_left h =
      ap₂ (λ (xs ys : List X). take most (xs ++ ys)) is_new (sym is_left) ∙ h

  pub all_found : (found left all : List X) → length found ≤ most → left ≡ [] → take most (found ++ left) ≡ take most all → found ≡ take most all
  all_found found left all room none h =
      sym (take_all most found room) ∙ ap (λ (xs : List X). take most xs) (sym (append-nil found) ∙ ap (λ (xs : List X). found ++ xs) (sym none)) ∙ h

  pub full_found : (found left all : List X) → length found ≤ most → most ≤ length found → take most (found ++ left) ≡ take most all → found ≡ take most all
  full_found found left all room full h =
      sym (take_all most found room) ∙ sym (take-append-le most found left full) ∙ h

-- ---- one winner further

module _ (lots : Lots) (book : Book) where
  abbrev room : List Choice → Bool
  room v = fits lots (loads lots book v)

  within_from : (p q : List ℕ) → length p ≡ length q → ((c : ℕ) → c < length q → slice_index p c ≤ slice_index q c) → is_within p q ≡ true
  within_from [] q e h = refl
  within_from (x ∷ p) [] e h = absurd (omega arith)
  within_from (x ∷ p) (y ∷ q) e h = and_from _ _ (le-leb x y (h 0 (omega arith))) (within_from p q (omega arith) (λ c l. h (suc c) (omega arith)))

  -- where the lots suffice for more, they suffice for less
  room_for_less : (u v : List Choice) → ((category : ℕ) → sum_by (quantity_of book category) u ≤ sum_by (quantity_of book category) v)
      → room v ≡ true → room u ≡ true
  room_for_less u v less fit = fits_smaller lots (loads lots book u) (loads lots book v)
      (within_from (loads lots book u) (loads lots book v) (loads_length lots book u ∙ sym (loads_length lots book v)) (λ category below.
      let size = loads_length lots book v in
      let e = loads_at lots book u category (omega arith) in
      let f = loads_at lots book v category (omega arith) in
      let l = less category in
      omega arith)) fit

  module _ (w : Choice) where
    abbrev choices : List Choice
    choices = w ∷ stand_ins lots book w

    heavier : (d : Choice) → (d ≡ w) ⊎ IsStandIn lots book (λ b. false) w d → (category : ℕ) → quantity_of book category w ≤ quantity_of book category d
    heavier d is category = ⊎_elim
        (λ (same : d ≡ w). let e = ap (λ (c : Choice). quantity_of book category c) same in omega arith)
        (λ (s : IsStandIn lots book (λ b. false) w d).
        let stands : bid_of book d ≡ Some s.bid = ap (λ (b : ℕ). bid_at (form_of book b) d.bid) s.bidder ∙ s.stands in
        let now : quantity_of book category d ≡ slice_index s.bid.package category =
        ap (λ (o : Option Bid). option_map_or (λ (x : Bid). slice_index x.package category) o 0) stands in
        let own : quantity_of book category w ≡ slice_index s.instead.package category =
        ap (λ (o : Option Bid). option_map_or (λ (x : Bid). slice_index x.package category) o 0) s.there in
        let less = within_at s.instead.package s.bid.package category s.smaller in
        omega arith)
        is

    sum_with : (p r : List Choice) (d : Choice) (category : ℕ) → sum_by (quantity_of book category) (p ++ d ∷ r)
        ≡ sum_by (quantity_of book category) p + (quantity_of book category d + sum_by (quantity_of book category) r)
    sum_with p r d category =
        let s = sum_by-append (quantity_of book category) p (d ∷ r) in
        let t : sum_by (quantity_of book category) (d ∷ r) ≡ quantity_of book category d + sum_by (quantity_of book category) r =
        sum_by-cons (quantity_of book category) d r in
        omega arith

    -- without room for the winner there is none for what stands in
    no_room : (p r : List Choice) → room (p ++ w ∷ r) ≡ false → (ds : List Choice)
        → AllByRecursion (λ d. (d ≡ w) ⊎ IsStandIn lots book (λ b. false) w d) ds → filter room (map (λ d. p ++ d ∷ r) ds) ≡ []
    no_room p r none [] h = refl
    no_room p r none (d ∷ ds) h =
        let fails : room (p ++ d ∷ r) ≡ false = false_from_ne_true (room (p ++ d ∷ r)) (λ fit. both_ways (room (p ++ w ∷ r)) none
        (room_for_less (p ++ w ∷ r) (p ++ d ∷ r) (λ category.
        let s = sum_with p r w category in
        let t = sum_with p r d category in
        let l = heavier d h.0 category in
        omega arith) fit)) in
        rw fails (no_room p r none ds h.1)

    set_at : (p r : List Choice) (d : Choice) (k : ℕ) → length p ≡ k → set (p ++ w ∷ r) k d ≡ p ++ d ∷ r
    set_at [] r d zero e = refl
    set_at [] r d (suc k) e = absurd (omega arith)
    set_at (c ∷ p) r d zero e = absurd (omega arith)
    set_at (c ∷ p) r d (suc k) e = ap (λ (xs : List Choice). c ∷ xs) (set_at p r d k (omega arith))

    all_set : (p r : List Choice) (k : ℕ) → length p ≡ k → (ds : List Choice) → map (λ d. set (p ++ w ∷ r) k d) ds ≡ map (λ d. p ++ d ∷ r) ds
    all_set p r k e [] = refl
    all_set p r k e (d ∷ ds) = ap₂ (λ (v : List Choice) (vs : List (List Choice)). v ∷ vs) (set_at p r d k e) (all_set p r k e ds)

    all_joined : (p r : List Choice) (ds : List Choice) → map (λ front. front ++ r) (map (λ d. p ++ d ∷ []) ds) ≡ map (λ d. p ++ d ∷ r) ds
    all_joined p r [] = refl
    all_joined p r (d ∷ ds) = ap₂ (λ (v : List Choice) (vs : List (List Choice)). v ∷ vs) (append_assoc p (d ∷ []) r) (all_joined p r ds)

    filter_join : (q : List Choice → Bool) (xs ys : List (List Choice)) → filter q (xs ++ ys) ≡ filter q xs ++ filter q ys
    filter_join q [] ys = refl
    filter_join q (x ∷ xs) ys = by (q x) refl (filter_join q xs ys)
      where
        by : (b : Bool) → q x ≡ b → filter q (xs ++ ys) ≡ filter q xs ++ filter q ys → filter q ((x ∷ xs) ++ ys) ≡ filter q (x ∷ xs) ++ filter q ys
        by true e h = rw e (ap (λ (zs : List (List Choice)). x ∷ zs) h)
        by false e h = rw e h

    map_join : (f : List Choice → List Choice) (xs ys : List (List Choice)) → map f (xs ++ ys) ≡ map f xs ++ map f ys
    map_join f [] ys = refl
    map_join f (x ∷ xs) ys = ap (λ (zs : List (List Choice)). f x ∷ zs) (map_join f xs ys)

    -- from the fronts, each with the winner or what stands in for it
    fronts_next : (r : List Choice) (k : ℕ) (fronts : List (List Choice)) → AllByRecursion (λ p. length p ≡ k) fronts
        → flat_map (options lots book k w) (filter room (map (λ p. p ++ w ∷ r) fronts))
        ≡ filter room (map (λ front. front ++ r) (flat_map (λ p. map (λ d. p ++ d ∷ []) choices) fronts))
    fronts_next r k [] h = refl
    fronts_next r k (p ∷ fronts) h =
        let here : options lots book k w (p ++ w ∷ r) ≡ filter room (map (λ d. p ++ d ∷ r) choices) =
        ap (λ (vs : List (List Choice)). filter room vs) (all_set p r k h.0 choices) in
        let rest : List (List Choice) = flat_map (λ p. map (λ d. p ++ d ∷ []) choices) fronts in
        let parts : filter room (map (λ front. front ++ r) (map (λ d. p ++ d ∷ []) choices ++ rest))
        ≡ filter room (map (λ d. p ++ d ∷ r) choices) ++ filter room (map (λ front. front ++ r) rest) =
        ap (λ (vs : List (List Choice)). filter room vs) (map_join (λ front. front ++ r) (map (λ d. p ++ d ∷ []) choices) rest)
        ∙ filter_join room (map (λ front. front ++ r) (map (λ d. p ++ d ∷ []) choices)) (map (λ front. front ++ r) rest)
        ∙ ap (λ (vs : List (List Choice)). filter room vs ++ filter room (map (λ front. front ++ r) rest)) (all_joined p r choices) in
        by (room (p ++ w ∷ r)) refl here parts (fronts_next r k fronts h.1)
      where
        by : (b : Bool) → room (p ++ w ∷ r) ≡ b → options lots book k w (p ++ w ∷ r) ≡ filter room (map (λ d. p ++ d ∷ r) choices)
            → filter room (map (λ front. front ++ r) (map (λ d. p ++ d ∷ []) choices ++ flat_map (λ p. map (λ d. p ++ d ∷ []) choices) fronts))
            ≡ filter room (map (λ d. p ++ d ∷ r) choices) ++ filter room (map (λ front. front ++ r) (flat_map (λ p. map (λ d. p ++ d ∷ []) choices) fronts))
            → flat_map (options lots book k w) (filter room (map (λ p. p ++ w ∷ r) fronts))
            ≡ filter room (map (λ front. front ++ r) (flat_map (λ p. map (λ d. p ++ d ∷ []) choices) fronts))
            → flat_map (options lots book k w) (filter room (map (λ p. p ++ w ∷ r) (p ∷ fronts)))
            ≡ filter room (map (λ front. front ++ r) (flat_map (λ p. map (λ d. p ++ d ∷ []) choices) (p ∷ fronts)))
        by true e here parts h = rw e (ap₂ (λ (xs ys : List (List Choice)). xs ++ ys) here h ∙ sym parts)
        by false e here parts h = rw e (h ∙ sym (parts ∙ ap (λ (xs : List (List Choice)). xs ++ filter room (map (λ front. front ++ r)
            (flat_map (λ p. map (λ d. p ++ d ∷ []) choices) fronts)))
            (no_room p r e choices (inl refl, stand_ins_are lots book (λ b. false) w))))

    -- the variants with one more winner
    put_first : (e : Choice) (fronts : List (List Choice)) → map (λ v. e ∷ v) (flat_map (λ p. map (λ d. p ++ d ∷ []) choices) fronts)
        ≡ flat_map (λ p. map (λ d. p ++ d ∷ []) choices) (map (λ v. e ∷ v) fronts)
    put_first e [] = refl
    put_first e (p ∷ fronts) = map_join (λ v. e ∷ v) (map (λ d. p ++ d ∷ []) choices) (flat_map (λ p. map (λ d. p ++ d ∷ []) choices) fronts)
        ∙ ap₂ (λ (xs ys : List (List Choice)). xs ++ ys) (map_map (λ v. e ∷ v) (λ d. p ++ d ∷ []) choices) (put_first e fronts)

    put_each : (es : List Choice) (fronts ends : List (List Choice)) → ends ≡ flat_map (λ p. map (λ d. p ++ d ∷ []) choices) fronts
        → flat_map (λ e. map (λ v. e ∷ v) ends) es ≡ flat_map (λ p. map (λ d. p ++ d ∷ []) choices) (flat_map (λ e. map (λ v. e ∷ v) fronts) es)
    put_each [] fronts ends is = refl
    put_each (e ∷ es) fronts ends is = ap₂ (λ (xs ys : List (List Choice)). xs ++ ys)
        (ap (λ (vs : List (List Choice)). map (λ v. e ∷ v) vs) is ∙ put_first e fronts) (put_each es fronts ends is)
        ∙ sym (flat_map-append (λ p. map (λ d. p ++ d ∷ []) choices) (map (λ v. e ∷ v) fronts) (flat_map (λ e. map (λ v. e ∷ v) fronts) es))

    singles : (ds : List Choice) → flat_map (λ d. map (λ v. d ∷ v) ([] ∷ [])) ds ≡ map (λ d. [] ++ d ∷ []) ds
    singles [] = refl
    singles (d ∷ ds) = ap (λ (vs : List (List Choice)). (d ∷ []) ∷ vs) (singles ds)

    variants_last : (xs : List Choice) → variants lots book (xs ++ w ∷ []) ≡ flat_map (λ p. map (λ d. p ++ d ∷ []) choices) (variants lots book xs)
    variants_last [] = singles choices ∙ sym (append-nil (map (λ d. [] ++ d ∷ []) choices))
    variants_last (c ∷ xs) = put_each (c ∷ stand_ins lots book c) (variants lots book xs) (variants lots book (xs ++ w ∷ [])) (variants_last xs)

  variants_long : (xs : List Choice) → AllByRecursion (λ v. length v ≡ length xs) (variants lots book xs)
  variants_long [] = (refl, tt)
  variants_long (c ∷ xs) = all_flat_map (λ v. length v ≡ length (c ∷ xs)) (λ d. Unit {0}) (λ d. map (λ others. d ∷ others) (variants lots book xs))
      (λ d u. all_map (λ v. length v ≡ length (c ∷ xs)) (λ v. length v ≡ length xs) (λ others. d ∷ others) (λ v e. omega arith)
      (variants lots book xs) (variants_long xs))
      (c ∷ stand_ins lots book c) (units (c ∷ stand_ins lots book c))
    where
      units : (ds : List Choice) → AllByRecursion (λ (d : Choice). Unit {0}) ds
      units [] = tt
      units (d ∷ ds) = (tt, units ds)

  cut_at : (a : List Choice) (k : ℕ) (w : Choice) → slice_get a k ≡ Some w
      → (take (suc k) a ≡ take k a ++ w ∷ []) × (drop k a ≡ w ∷ drop (suc k) a) × (length (take k a) ≡ k)
  cut_at [] k w e = absurd (none-some w e)
  cut_at (x ∷ a) zero w e = (ap (λ (c : Choice). c ∷ []) (same_Some x w e), ap (λ (c : Choice). c ∷ a) (same_Some x w e), refl)
  cut_at (x ∷ a) (suc k) w e =
      let r = cut_at a k w e in
      (ap (λ (xs : List Choice). x ∷ xs) r.0, r.1, (let l = r.2 in omega arith))

  pub partly_next : (a : List Choice) (k : ℕ) (w : Choice) → slice_get a k ≡ Some w → flat_map (options lots book k w) (partly lots book a k) ≡ partly lots book a (k + 1)
  partly_next a k w at =
      let cut = cut_at a k w at in
      let next : k + 1 ≡ suc k = add-one k in
      ap (λ (rest : List Choice). flat_map (options lots book k w) (filter room (map (λ front. front ++ rest) (variants lots book (take k a))))) cut.1
      ∙ fronts_next w (drop (suc k) a) k (variants lots book (take k a)) (longer (variants lots book (take k a)) (variants_long (take k a)) cut.2)
      ∙ ap (λ (vs : List (List Choice)). filter room (map (λ front. front ++ drop (suc k) a) vs))
      (sym (variants_last w (take k a)) ∙ ap (λ (xs : List Choice). variants lots book xs) (sym cut.0))
      ∙ ap (λ (n : ℕ). partly lots book a n) (sym next)
    where
      longer : (vs : List (List Choice)) → AllByRecursion (λ v. length v ≡ length (take k a)) vs → length (take k a) ≡ k → AllByRecursion (λ v. length v ≡ k) vs
      longer [] h e = tt
      longer (v ∷ vs) h e = ((let l = h.0 in omega arith), longer vs h.1 e)

-- ---- lists that are cut

module _ {X : Type 0} where
  pub cut_joined : (m : ℕ) (xs ys : List X) → take m (take m xs ++ ys) ≡ take m (xs ++ ys)
  cut_joined zero xs ys = refl
  cut_joined (suc m) [] ys = refl
  cut_joined (suc m) (x ∷ xs) ys = ap (λ (zs : List X). x ∷ zs) (cut_joined m xs ys)

  pub cut_deeper : (m n : ℕ) (xs ys : List X) → m ≤ n → take m (xs ++ take n ys) ≡ take m (xs ++ ys)
  cut_deeper zero n xs ys l = refl
  cut_deeper (suc m) n [] ys l = take-take (suc m) n ys l
  cut_deeper (suc m) n (x ∷ xs) ys l = ap (λ (zs : List X). x ∷ zs) (cut_deeper m n xs ys (omega arith))

  pub cut_length : (m : ℕ) (xs : List X) → length (take m xs) ≤ m
  cut_length m xs = let e = length-take m xs in omega arith

-- ---- the code's parts

module _ {X Y : Type 0} (f : X → List Y) where
  -- the first so many of what each gives are given by the first so many
  pub cut_flat : (m : ℕ) (xs : List X) → AllByRecursion (λ x. (y : Y) × (ys : List Y) × (f x ≡ y ∷ ys)) xs
      → take m (flat_map f (take m xs)) ≡ take m (flat_map f xs)
  cut_flat zero xs h = refl
  cut_flat (suc m) [] h = refl
  cut_flat (suc m) (x ∷ xs) h =
      let (y, ys, is) = h.0 in
      let rest : take m (ys ++ flat_map f (take m xs)) ≡ take m (ys ++ flat_map f xs) =
      sym (cut_deeper m m ys (flat_map f (take m xs)) (omega arith))
      ∙ ap (λ (zs : List Y). take m (ys ++ zs)) (cut_flat m xs h.1)
      ∙ cut_deeper m m ys (flat_map f xs) (omega arith) in
      ap (λ (zs : List Y). take (suc m) (zs ++ flat_map f (take m xs))) is
      ∙ ap (λ (zs : List Y). y ∷ zs) rest
      ∙ sym (ap (λ (zs : List Y). take (suc m) (zs ++ flat_map f xs)) is)

  pub cut_more : (m i : ℕ) (xs : List X) (x : X) (found : List Y) → i < length xs → x ≡ get_or xs i x → found ≡ take m (flat_map f (take i xs))
      → take m (found ++ take m (f x)) ≡ take m (flat_map f (take (i + 1) xs))
  cut_more m i xs x found l e h =
      cut_deeper m m found (f x) (omega arith)
      ∙ ap (λ (zs : List Y). take m (zs ++ f x)) h
      ∙ cut_joined m (flat_map f (take i xs)) (f x)
      ∙ ap (λ (zs : List Y). take m zs) (flat_map_more f [] (take i xs) x ∙ ap (λ (zs : List X). flat_map f zs) (sym (take_more xs i x l ∙ ap (λ (z : X). take i xs ++ z ∷ []) (sym e))))

pub get_at : {X : Type 0} (a : List X) (k : ℕ) (d : X) → k < length a → slice_get a k ≡ Some (get_or a k d)
get_at [] k d l = absurd (omega arith)
get_at (x ∷ a) zero d l = refl
get_at (x ∷ a) (suc k) d l = get_at a k d (omega arith)

module _ (lots : Lots) (book : Book) where
  -- the first of the options is the award
  options_first : (k : ℕ) (w : Choice) (s : List Choice) → slice_get s k ≡ Some w → room lots book s ≡ true
      → (v : List Choice) × (vs : List (List Choice)) × (options lots book k w s ≡ v ∷ vs)
  options_first k w s at fit =
      let first : room lots book (set s k w) ≡ true = ap (room lots book) (set_same s k w at) ∙ fit in
      let rest : List (List Choice) = filter (room lots book) (map (λ d. set s k d) (stand_ins lots book w)) in
      (set s k w, rest, cond-true (room lots book (set s k w)) (set s k w ∷ rest) rest first)

  at_front : (p r : List Choice) (w : Choice) (k : ℕ) → length p ≡ k → slice_get (p ++ w ∷ r) k ≡ Some w
  at_front [] r w zero e = refl
  at_front [] r w (suc k) e = absurd (omega arith)
  at_front (c ∷ p) r w zero e = absurd (omega arith)
  at_front (c ∷ p) r w (suc k) e = at_front p r w k (omega arith)

  -- the winner is at its place in each award in which only the ones before are replaced
  partly_at : (a : List Choice) (k : ℕ) (w : Choice) → slice_get a k ≡ Some w
      → AllByRecursion (λ s. (slice_get s k ≡ Some w) × (room lots book s ≡ true)) (partly lots book a k)
  partly_at a k w at =
      let cut = cut_at lots book a k w at in
      all_filter (λ s. slice_get s k ≡ Some w) (room lots book) (map (λ front. front ++ drop k a) (variants lots book (take k a)))
      (all_map (λ s. slice_get s k ≡ Some w) (λ v. length v ≡ length (take k a)) (λ front. front ++ drop k a)
      (λ v e. ap (λ (rest : List Choice). slice_get (v ++ rest) k) cut.1 ∙ at_front v (drop (suc k) a) w k (e ∙ cut.2))
      (variants lots book (take k a)) (variants_long lots book (take k a)))

  pub all_at : (a : List Choice) (k most : ℕ) (w : Choice) → slice_get a k ≡ Some w → All (λ s. slice_get s k ≡ Some w) (take most (partly lots book a k))
  all_at a k most w at = All-take (λ s. slice_get s k ≡ Some w) most (partly lots book a k)
      (All-from_recursion (λ s. slice_get s k ≡ Some w) (partly lots book a k)
      (all_agree (λ s. (slice_get s k ≡ Some w) × (room lots book s ≡ true)) (λ s. slice_get s k ≡ Some w) (partly lots book a k) (λ s h. h.0) (partly_at a k w at)))

  pub next_found : (a : List Choice) (k most : ℕ) (w : Choice) (found new : List (List Choice)) → slice_get a k ≡ Some w
      → found ≡ take most (partly lots book a k) → new ≡ take most (flat_map (options lots book k w) found) → new ≡ take most (partly lots book a (k + 1))
  next_found a k most w found new at is is_new =
      is_new ∙ ap (λ (vs : List (List Choice)). take most (flat_map (options lots book k w) vs)) is
      ∙ cut_flat (options lots book k w) most (partly lots book a k)
      (all_agree (λ s. (slice_get s k ≡ Some w) × (room lots book s ≡ true)) (λ s. (v : List Choice) × (vs : List (List Choice)) × (options lots book k w s ≡ v ∷ vs))
      (partly lots book a k) (λ s h. options_first k w s h.0 h.1) (partly_at a k w at))
      ∙ ap (λ (vs : List (List Choice)). take most vs) (partly_next lots book a k w at)

  all_whole : (vs : List (List Choice)) → map (λ front. front ++ []) vs ≡ vs
  all_whole [] = refl
  all_whole (v ∷ vs) = ap₂ (λ (x : List Choice) (xs : List (List Choice)). x ∷ xs) (append-nil v) (all_whole vs)

  pub partly_end : (a : List Choice) (k : ℕ) → length a ≤ k → partly lots book a k ≡ awards lots book a
  partly_end a k l =
      ap₂ (λ (front rest : List Choice). filter (room lots book) (map (λ v. v ++ rest) (variants lots book front))) (take_all k a l) (drop_of_length-le a {i = k} l)
      ∙ ap (λ (vs : List (List Choice)). filter (room lots book) vs) (all_whole (variants lots book a))

  -- what is found is feasible
  itself_placed : (ys : List Choice) → AllByRecursion (IsKept lots book (λ b. false)) ys → Placed lots book (λ b. false) ys ys
  itself_placed [] h = record { places = []; own = refl; now = refl }
  itself_placed (c ∷ ys) h =
      let r = itself_placed ys h.1 in
      record {
        places = record { own = c; now = c; kept = h.0; is = inl refl } ∷ r.places;
        own = ap (λ (xs : List Choice). c ∷ xs) r.own;
        now = ap (λ (xs : List Choice). c ∷ xs) r.now;
      }

  placed_with : (xs v ys : List Choice) → AllByRecursion (IsKept lots book (λ b. false)) ys → Placed lots book (λ b. false) xs v
      → Placed lots book (λ b. false) (xs ++ ys) (v ++ ys)
  placed_with xs v ys h p =
      let r = itself_placed ys h in
      record {
        places = p.places ++ r.places;
        own = map-append (own_of lots book (λ b. false)) p.places r.places ∙ ap₂ (λ (x y : List Choice). x ++ y) p.own r.own;
        now = map-append (now_of lots book (λ b. false)) p.places r.places ∙ ap₂ (λ (x y : List Choice). x ++ y) p.now r.now;
      }

  pub partly_feasible : (a : List Choice) (k most : ℕ) → IsFeasible lots book (λ b. false) a → All (IsKept lots book (λ b. false)) a
      → All (IsFeasible lots book (λ b. false)) (take most (partly lots book a k))
  partly_feasible a k most f kept =
      let none : ℕ → Bool = λ b. false in
      let whole = take-append-drop k a in
      All-take (IsFeasible lots book none) most (partly lots book a k)
      (All-from_recursion (IsFeasible lots book none) (partly lots book a k)
      (all_agree (λ s. Placed lots book none a s × (room lots book s ≡ true)) (IsFeasible lots book none) (partly lots book a k)
      (λ s h. subst (IsFeasible lots book none) h.0.now (variant_feasible lots book none h.0.places (subst (IsFeasible lots book none) (sym h.0.own) f)
      (ap (λ (v : List Choice). room lots book v) h.0.now ∙ h.1)))
      (all_filter (Placed lots book none a) (room lots book) (map (λ front. front ++ drop k a) (variants lots book (take k a)))
      (all_map (Placed lots book none a) (Placed lots book none (take k a)) (λ front. front ++ drop k a)
      (λ v p. subst (λ (x : List Choice). Placed lots book none x (v ++ drop k a)) whole
      (placed_with (take k a) v (drop k a) (recursion_from_All (IsKept lots book none) (drop k a) (All-drop (IsKept lots book none) k a kept)) p))
      (variants lots book (take k a)) (all_placed lots book none (take k a) (recursion_from_All (IsKept lots book none) (take k a)
      (All-take (IsKept lots book none) k a kept)))))))

  -- what is added at one award
  pub options_added : (sized : IsSized lots book) (a : List Choice) (w : Choice) (k most : ℕ) (at : slice_get a k ≡ Some w) (won : Bid)
      → bid_of book w ≡ Some won → room lots book a ≡ true
      → (c : Choice) (bids : List Bid) (taken rest : List ℕ) (v : List Choice) (old pushed new : List (List Choice)) → c ≡ w → bids ≡ form_of book w.bidder → taken ≡ loads lots book a
      → rest ≡ left taken won.package → v ≡ set a k w → pushed ≡ old ++ v ∷ []
      → new ≡ take most (pushed ++ each_put a k c.bidder (numbers_passing (replaces lots bids c.bid (net lots won) rest) bids))
      → new ≡ take most (old ++ options lots book k w a)
  options_added sized a w k most at won wins fit c bids taken rest v old pushed new is_w are_bids are_taken are_rest is_v are_pushed are_new =
      let all = options_are lots book sized a w k at won wins fit in
      let left_is : rest ≡ left (loads lots book a) won.package = are_rest ∙ ap (λ (q : List ℕ). left q won.package) are_taken in
      let put : each_put a k c.bidder (numbers_passing (replaces lots bids c.bid (net lots won) rest) bids)
      ≡ each_put a k w.bidder (numbers_passing (replaces lots (form_of book w.bidder) w.bid (net lots won) (left (loads lots book a) won.package)) (form_of book w.bidder)) =
      ap (λ (d : Choice). each_put a k d.bidder (numbers_passing (replaces lots bids d.bid (net lots won) rest) bids)) is_w
      ∙ ap₂ (λ (form : List Bid) (q : List ℕ). each_put a k w.bidder (numbers_passing (replaces lots form w.bid (net lots won) q) form)) are_bids left_is in
      are_new
      ∙ ap₂ (λ (xs ys : List (List Choice)). take most (xs ++ ys))
      (are_pushed ∙ ap (λ (x : List Choice). old ++ x ∷ []) (is_v ∙ set_same a k w at)) put
      ∙ ap (λ (xs : List (List Choice)). take most xs)
      (append_assoc old (a ∷ []) (each_put a k w.bidder (numbers_passing (replaces lots (form_of book w.bidder) w.bid (net lots won)
      (left (loads lots book a) won.package)) (form_of book w.bidder))) ∙ ap (λ (xs : List (List Choice)). old ++ xs) (sym all))
