-- Laws of allocations: what a total is, and how each bid is replaced by a kept one or left out.
use Rattle.std.proofs.Common.{◌≡◌, ℕ, suc, ◌+◌, ◌<◌, ◌≤◌, Bool, true, false, not, ◌==◌, cond, List, [], ◌∷◌, Option, Some}
use Rattle.std.proofs.Common.{None, is_some, slice_index, slice_index_or, length, sym, refl, ap, ◌∙◌, arith, le-leb}
use Rattle.std.proofs.Common.{leb-true, le_refl, ⊎_elim, pos, ◌<ℤ◌, ◌≤ℤ◌}
use Rattle.std.specs.Prelude.{count_by, sum_by, All}
use Rattle.std.specs.List.{AllByRecursion, list_all}
use Rattle.std.specs.Option.{option_map_or}
use Rattle.std.proofs.lemmas.Bool.{and_parts, and_from, both_ways}
use Rattle.std.proofs.lemmas.List.FromFn.{get_or-map-range_with_len, length-map-range_with_len}
use Rattle.std.proofs.lemmas.List.Sums.{AllPass-from_list_all, sum_by-cons, get_or-le-sum_by}
use Rattle.std.proofs.lemmas.List.Elements.{recursion_from_All, All-from_recursion}
use Rattle.auction_terms.specs.declared.bids.Bid.{Bid}
use Rattle.auction_terms.specs.declared.bids.Choice.{Choice}
use Rattle.std.proofs.lemmas.Int.{ints}
use Rattle.auction_terms.specs.Packages.{Lots, WeightedCap, pool_at, fits, is_within, weighed, left, worth, worth_of_all}
use Rattle.auction_terms.specs.inside.Packages.{is_within_cap}
use Rattle.auction_terms.specs.Domination.{net, is_kept}
use Rattle.auction_terms.specs.Allocations.{Book, form_of, bid_of, amount_of, quantity_of, weighed_choice, total, loads, is_eligible, IsFeasible, IsSized}
use Rattle.auction_terms.specs.Keeping.{is_kept_choice, KeptInstead, KeptAreEnough}
use Rattle.auction_terms.proofs.WeighedFacts.{le_from, weighed_left, weighed_loads}
use Rattle.auction_terms.proofs.PackageFacts.{within_at, fits_smaller, keeps_the_best}

-- at most in each category, as a test
within_from : (p s : List ℕ) → length p ≡ length s → ((c : ℕ) → c < length s → slice_index p c ≤ slice_index s c) → is_within p s ≡ true
within_from [] s e h = refl
within_from (x ∷ p) [] e h = absurd (omega arith)
within_from (x ∷ p) (y ∷ s) e h = and_from _ _ (le-leb x y (h 0 (omega arith))) (within_from p s (omega arith) (λ c l. h (suc c) (omega arith)))

pub loads_length : (lots : Lots) (book : Book) (a : List Choice) → length (loads lots book a) ≡ length lots.supply
loads_length lots book a = length-map-range_with_len (λ c. sum_by (quantity_of book c) a) 0 (length lots.supply)

pub loads_at : (lots : Lots) (book : Book) (a : List Choice) (category : ℕ) → category < length lots.supply
    → slice_index (loads lots book a) category ≡ sum_by (quantity_of book category) a
loads_at lots book a category below =
    get_or-map-range_with_len (λ c. sum_by (quantity_of book c) a) 0 (length lots.supply) category category 0 below (omega arith)

caps_from : (q : List ℕ) (pools : List WeightedCap)
    → ((p : ℕ) → p < length pools → is_within_cap q (slice_index_or pools p (record { cap = 0; weights = [] })) ≡ true)
    → list_all (is_within_cap q) pools ≡ true
caps_from q [] h = refl
caps_from q (pool ∷ pools) h = and_from (is_within_cap q pool) (list_all (is_within_cap q) pools) (h 0 (omega arith))
    (caps_from q pools (λ p l. h (suc p) (omega arith)))

pub feasible_at : (lots : Lots) (book : Book) (group : ℕ → Bool) (a : List Choice) → IsFeasible lots book group a → (category : ℕ)
    → category < length lots.supply → sum_by (quantity_of book category) a ≤ slice_index lots.supply category
feasible_at lots book group a f category below =
    let w = within_at (loads lots book a) lots.supply category (and_parts (is_within (loads lots book a) lots.supply)
    (list_all (is_within_cap (loads lots book a)) lots.pools) f.fit).0 in
    let e = loads_at lots book a category below in
    omega arith

-- the sum of the weighed packages is at most the cap of the pool
pub feasible_pool : (lots : Lots) (book : Book) (group : ℕ → Bool) (a : List Choice) → IsSized lots book → IsFeasible lots book group a
    → (p : ℕ) → p < length lots.pools → sum_by (weighed_choice (pool_at lots p).weights book) a ≤ (pool_at lots p).cap
feasible_pool lots book group a sized f p below =
    let w = leb-true (weighed (pool_at lots p).weights (loads lots book a)) (pool_at lots p).cap
    (AllPass-from_list_all (is_within_cap (loads lots book a)) lots.pools
    (and_parts (is_within (loads lots book a) lots.supply) (list_all (is_within_cap (loads lots book a)) lots.pools) f.fit).1 p _ below)
    in
    let e = weighed_loads lots book sized (pool_at lots p).weights a in
    omega arith

pub feasible_from : (lots : Lots) (book : Book) (a : List Choice) → IsSized lots book
    → ((category : ℕ) → category < length lots.supply → sum_by (quantity_of book category) a ≤ slice_index lots.supply category)
    → ((p : ℕ) → p < length lots.pools → sum_by (weighed_choice (pool_at lots p).weights book) a ≤ (pool_at lots p).cap) → fits lots (loads lots book a) ≡ true
feasible_from lots book a sized h k = and_from (is_within (loads lots book a) lots.supply) (list_all (is_within_cap (loads lots book a)) lots.pools)
    (within_from (loads lots book a) lots.supply (loads_length lots book a) (λ category below.
    let e = loads_at lots book a category below in
    let w = h category below in
    omega arith))
    (caps_from (loads lots book a) lots.pools (λ p below.
    let e = weighed_loads lots book sized (pool_at lots p).weights a in
    let w = k p below in
    le-leb (weighed (pool_at lots p).weights (loads lots book a)) (pool_at lots p).cap (omega arith)))

-- the sum of what the packages are worth where they are left
abbrev pub worths : Lots → Book → List Choice → ℕ
worths lots book a = sum_by (weighed_choice lots.values book) a

-- the total is what all lots are worth, and the nets
pub total_is : (lots : Lots) (book : Book) (a : List Choice) → IsSized lots book → fits lots (loads lots book a) ≡ true
    → total lots book a + worths lots book a ≡ sum_by (amount_of book) a + worth_of_all lots
total_is lots book a sized fit =
    let within = (and_parts (is_within (loads lots book a) lots.supply) (list_all (is_within_cap (loads lots book a)) lots.pools) fit).0 in
    let parts : worth lots (left lots.supply (loads lots book a)) + worth lots (loads lots book a) ≡ worth_of_all lots =
    weighed_left lots.values lots.supply (loads lots book a) within (loads_length lots book a) in
    let e : worth lots (loads lots book a) ≡ worths lots book a = weighed_loads lots book sized lots.values a in
    omega arith

pub value_of : {X : Type 0} (o : Option X) → is_some o ≡ true → (x : X) × (o ≡ Some x)
value_of None h = absurd (both_ways false refl h)
value_of (Some x) h = (x, refl)

module _ (lots : Lots) (book : Book) (group : ℕ → Bool) where
  -- the bidder may choose, and the bid fits supply
  pub record IsGood (c : Choice) : Type 0 where
    pub outside : not (group c.bidder) ≡ true
    pub bid : Bid
    pub stands : bid_of book c ≡ Some bid
    pub fits : fits lots bid.package ≡ true

  pub good : IsSized lots book → (a : List Choice) → IsFeasible lots book group a → All IsGood a
  good sized a f k d l =
      let c = slice_index_or a k d in
      let e = and_parts (not (group c.bidder)) (is_some (bid_of book c)) (f.eligible k d l) in
      let v = value_of (bid_of book c) e.1 in
      record {
        outside = e.0;
        bid = v.0;
        stands = v.1;
        fits = fits_smaller lots v.0.package (loads lots book a) (within_from v.0.package (loads lots book a)
            (sized c.bidder c.bid v.0 v.1 ∙ sym (loads_length lots book a)) (λ category below.
            let size = loads_length lots book a in
            let here : quantity_of book category c ≡ slice_index v.0.package category =
            ap (λ o. option_map_or (λ (x : Bid). slice_index x.package category) o 0) v.1 in
            let part : quantity_of book category c ≤ sum_by (quantity_of book category) a = get_or-le-sum_by (quantity_of book category) a k d l in
            let e = loads_at lots book a category (omega arith) in
            omega arith)) f.fit;
      }

  -- the choices stand in for these: each bidder has no more bids, no category is loaded more, and the nets are at least as great
  pub record StandIn (a choices : List Choice) : Type 0 where
    pub fewer : (b : ℕ) → count_by (λ c. c.bidder == b) choices ≤ count_by (λ c. c.bidder == b) a
    pub eligible : AllByRecursion (λ c. is_eligible book group c ≡ true) choices
    pub no_cheaper : sum_by (amount_of book) a + worths lots book choices ≤ sum_by (amount_of book) choices + worths lots book a
    pub lighter : (category : ℕ) → sum_by (quantity_of book category) choices ≤ sum_by (quantity_of book category) a

  -- a bid whose net is below 0 is left out
  pub stand_in_without : (c : Choice) (a choices : List Choice) (g : IsGood c) → net lots g.bid <ℤ pos 0 → StandIn a choices → StandIn (c ∷ a) choices
  stand_in_without c a choices g less r =
      let amount : amount_of book c ≡ g.bid.amount = ap (λ o. option_map_or (λ (x : Bid). x.amount) o 0) g.stands in
      let worth_is : weighed_choice lots.values book c ≡ worth lots g.bid.package =
      ap (λ o. option_map_or (λ (x : Bid). weighed lots.values x.package) o 0) g.stands in
      record {
        fewer = λ b.
            let s = sum_by-cons (λ (x : Choice). cond (x.bidder == b) 1 0) c a in
            let others = r.fewer b in
            omega arith;
        eligible = r.eligible;
        no_cheaper =
            let others = r.no_cheaper in
            let s : sum_by (amount_of book) (c ∷ a) ≡ amount_of book c + sum_by (amount_of book) a = sum_by-cons (amount_of book) c a in
            let t : worths lots book (c ∷ a) ≡ weighed_choice lots.values book c + worths lots book a = sum_by-cons (weighed_choice lots.values book) c a in
            let low : g.bid.amount ≤ worth lots g.bid.package = omega (arith, ints) in
            omega arith;
        lighter = λ category.
            let s = sum_by-cons (quantity_of book category) c a in
            let others = r.lighter category in
            omega arith;
      }

  -- a kept bid of its form in its place
  pub stand_in_with : (c : Choice) (a choices : List Choice) (g : IsGood c) (k : KeptInstead lots (form_of book c.bidder) g.bid)
      → StandIn a choices → StandIn (c ∷ a) (record { bidder = c.bidder; bid = k.number } ∷ choices)
  stand_in_with c a choices g k r =
      let c' : Choice = record { bidder = c.bidder; bid = k.number } in
      let amount : amount_of book c ≡ g.bid.amount = ap (λ o. option_map_or (λ (x : Bid). x.amount) o 0) g.stands in
      let amount' : amount_of book c' ≡ k.bid.amount = ap (λ o. option_map_or (λ (x : Bid). x.amount) o 0) k.stands in
      let worth_is : weighed_choice lots.values book c ≡ worth lots g.bid.package =
      ap (λ o. option_map_or (λ (x : Bid). weighed lots.values x.package) o 0) g.stands in
      let worth_is' : weighed_choice lots.values book c' ≡ worth lots k.bid.package =
      ap (λ o. option_map_or (λ (x : Bid). weighed lots.values x.package) o 0) k.stands in
      record {
        fewer = λ b.
            let n : ℕ = cond (c.bidder == b) 1 0 in
            let s' : count_by (λ x. x.bidder == b) (c' ∷ choices) ≡ n + count_by (λ x. x.bidder == b) choices =
            sum_by-cons (λ (x : Choice). cond (x.bidder == b) 1 0) c' choices in
            let s : count_by (λ x. x.bidder == b) (c ∷ a) ≡ n + count_by (λ x. x.bidder == b) a = sum_by-cons (λ (x : Choice). cond (x.bidder == b) 1 0) c a in
            let others = r.fewer b in
            omega arith;
        eligible = (and_from _ _ g.outside (ap (λ o. is_some o) k.stands), r.eligible);
        no_cheaper =
            let dearer : net lots g.bid ≤ℤ net lots k.bid = le_from (net lots g.bid) (net lots k.bid) k.no_cheaper in
            let others = r.no_cheaper in
            let s : sum_by (amount_of book) (c ∷ a) ≡ amount_of book c + sum_by (amount_of book) a = sum_by-cons (amount_of book) c a in
            let s' : sum_by (amount_of book) (c' ∷ choices) ≡ amount_of book c' + sum_by (amount_of book) choices = sum_by-cons (amount_of book) c' choices in
            let t : worths lots book (c ∷ a) ≡ weighed_choice lots.values book c + worths lots book a = sum_by-cons (weighed_choice lots.values book) c a in
            let t' : worths lots book (c' ∷ choices) ≡ weighed_choice lots.values book c' + worths lots book choices =
            sum_by-cons (weighed_choice lots.values book) c' choices in
            let gain : g.bid.amount + worth lots k.bid.package ≤ k.bid.amount + worth lots g.bid.package = omega (arith, ints) in
            omega arith;
        lighter = λ category.
            let q : quantity_of book category c ≡ slice_index g.bid.package category =
            ap (λ o. option_map_or (λ (x : Bid). slice_index x.package category) o 0) g.stands in
            let q' : quantity_of book category c' ≡ slice_index k.bid.package category =
            ap (λ o. option_map_or (λ (x : Bid). slice_index x.package category) o 0) k.stands in
            let less = within_at k.bid.package g.bid.package category k.smaller in
            let others = r.lighter category in
            let s : sum_by (quantity_of book category) (c ∷ a) ≡ quantity_of book category c + sum_by (quantity_of book category) a =
            sum_by-cons (quantity_of book category) c a in
            let s' : sum_by (quantity_of book category) (c' ∷ choices)
            ≡ quantity_of book category c' + sum_by (quantity_of book category) choices = sum_by-cons (quantity_of book category) c'
            choices in
            omega arith;
      }

  -- what stands in for a feasible allocation is feasible too
  pub stand_in_feasible : (a choices : List Choice) → IsFeasible lots book group a → StandIn a choices → IsFeasible lots book group choices
  stand_in_feasible a choices f r =
      let lighter : is_within (loads lots book choices) (loads lots book a)
      ≡ true = within_from (loads lots book choices) (loads lots book a)
      (loads_length lots book choices ∙ sym (loads_length lots book a)) (λ category below.
      let size = loads_length lots book a in
      let e = loads_at lots book choices category (omega arith) in
      let e' = loads_at lots book a category (omega arith) in
      let l = r.lighter category in
      omega arith) in
      record {
        one_bid_each = λ b. let e = r.fewer b in let o = f.one_bid_each b in omega arith;
        eligible = All-from_recursion _ choices r.eligible;
        fit = fits_smaller lots (loads lots book choices) (loads lots book a) lighter f.fit;
      }

  -- and its total isn't lower
  pub stand_in_total : (a choices : List Choice) → IsSized lots book → IsFeasible lots book group a → StandIn a choices
      → total lots book a ≤ total lots book choices
  stand_in_total a choices sized f r =
      let t = total_is lots book a sized f.fit in
      let t' = total_is lots book choices sized (stand_in_feasible a choices f r).fit in
      let n = r.no_cheaper in
      omega arith

  -- a kept bid in place of each, or none
  record Replaced (a : List Choice) : Type 0 where
    choices : List Choice
    kept : AllByRecursion (λ c. is_kept_choice lots book group c ≡ true) choices
    stand_in : StandIn a choices

  pub stand_in_kept : (c : Choice) (g : IsGood c) (k : KeptInstead lots (form_of book c.bidder) g.bid)
      → is_kept_choice lots book group (record { bidder = c.bidder; bid = k.number }) ≡ true
  stand_in_kept c g k = and_from _ _ g.outside (ap (λ o. option_map_or (λ (x : Bid). is_kept lots (form_of book c.bidder) x) o false) k.stands ∙ k.kept)

  replaced : (a : List Choice) → AllByRecursion IsGood a → Replaced a
  replaced [] h = record {
    choices = [];
    kept = tt;
    stand_in = record {
      fewer = λ b. le_refl 0;
      eligible = tt;
      no_cheaper = le_refl 0;
      lighter = λ category. le_refl 0;
    };
  }
  replaced (c ∷ a) h =
      let g = h.0 in
      let r = replaced a h.1 in
      ⊎_elim
      (λ less. record { choices = r.choices; kept = r.kept; stand_in = stand_in_without c a r.choices g less r.stand_in })
      (λ k. record {
        choices = record { bidder = c.bidder; bid = k.number } ∷ r.choices;
        kept = (stand_in_kept c g k, r.kept);
        stand_in = stand_in_with c a r.choices g k r.stand_in;
      })
      (keeps_the_best lots (form_of book c.bidder) c.bid g.bid g.stands g.fits)

pub kept_are_enough : KeptAreEnough
kept_are_enough lots book group a sized f =
    let r = replaced lots book group a (recursion_from_All (IsGood lots book group) a (good lots book group sized a f)) in
    record {
      choices = r.choices;
      feasible = stand_in_feasible lots book group a r.choices f r.stand_in;
      kept = All-from_recursion _ r.choices r.kept;
      no_cheaper = stand_in_total lots book group a r.choices sized f r.stand_in;
    }
