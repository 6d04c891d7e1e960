-- The steps of searches by place.
use Rattle.std.proofs.Common.{◌≡◌, ◌∙◌, ◌+◌, ◌-◌, ◌<◌, ◌≤◌, ◌∷◌, ℕ, suc, Bool, true, false, List, [], Option, Some, refl}
use Rattle.std.proofs.Common.{sym, ap, arith, drop, length, map, slice_index_or}
use Rattle.std.specs.Prelude.{nat_lt, option_map, slice_index}
use Rattle.std.specs.List.{find, position_from, range_with_len}
use Rattle.std.proofs.lemmas.Bool.Decides.{nat_tests}
use Rattle.std.proofs.lemmas.List.{drop-map, drop_more, get_or-map}
use Rattle.auction_terms.specs.declared.rules.Pool.{Pool}
use Rattle.auction_terms.specs.Packages.{WeightedCap, pool_at, weighed}
use Rattle.auction_terms.specs.Terms.{Terms, lots_in}
use Rattle.presolve.specs.Reasons.{over_cap}
use Rattle.presolve.specs.declared.reason.Reason.{Reason}
use Rattle.presolve.specs.declared.reason.Reason.TheVariants as reason

-- ---- categories

abbrev is_above : List ℕ → List ℕ → ℕ → Bool
is_above supplies quantities place = nat_lt (slice_index supplies place) (slice_index quantities place)

-- a category of which no more is asked for than there is
pub supply-passed : (supplies quantities : List ℕ) (i : ℕ) → i < length quantities → slice_index quantities i ≤ slice_index supplies i
    → find (is_above supplies quantities) (range_with_len i (length quantities - i))
    ≡ find (is_above supplies quantities) (range_with_len (i + 1) (length quantities - (i + 1)))
supply-passed supplies quantities i small within =
    let more : length quantities - i ≡ suc (length quantities - (i + 1)) = omega arith in
    let failed : nat_lt (slice_index supplies i) (slice_index quantities i) ≡ false = grind (arith, nat_tests) in
    rw (more, failed) refl

-- the first one of which more is
pub supply-found : (supplies quantities : List ℕ) (i asked : ℕ) → i < length quantities → asked ≡ slice_index quantities i
    → slice_index supplies i < asked
    → find (is_above supplies quantities) (range_with_len 0 (length quantities)) ≡ find (is_above supplies quantities) (range_with_len i (length quantities - i))
    → Some (reason.OverSupply i asked (slice_index supplies i))
    ≡ option_map (λ place. reason.OverSupply place (slice_index quantities place) (slice_index supplies place))
    (find (is_above supplies quantities) (range_with_len 0 (length quantities)))
supply-found supplies quantities i asked small asked_is above so_far =
    let more : length quantities - i ≡ suc (length quantities - (i + 1)) = omega arith in
    let passed : nat_lt (slice_index supplies i) (slice_index quantities i) ≡ true = grind (arith, nat_tests) in
    let found : find (is_above supplies quantities) (range_with_len 0 (length quantities)) ≡ Some i = rw (more, passed) at so_far in
    let reported : ℕ → Reason = λ place. reason.OverSupply place (slice_index quantities place) (slice_index supplies place) in
    sym (ap (λ (o : Option ℕ). option_map reported o) found ∙ ap (λ (n : ℕ). Some (reason.OverSupply i n (slice_index supplies i))) (sym asked_is))

-- ---- pools

abbrev pub cap_in : Pool → WeightedCap
cap_in pool = record { cap = pool.cap; weights = pool.weights }

abbrev is_over : List ℕ → WeightedCap → Bool
is_over quantities pool = nat_lt pool.cap (weighed pool.weights quantities)

-- the pool at a place, and those after it
caps-from : (pools : List Pool) (i : ℕ) (pool : Pool) → i < length pools → pool ≡ slice_index_or pools i pool
    → drop i (map cap_in pools) ≡ cap_in pool ∷ drop (i + 1) (map cap_in pools)
caps-from pools i pool small at =
    drop-map cap_in i pools ∙ ap (map cap_in) (drop_more pools i pool small ∙ ap (λ (p : Pool). p ∷ drop (i + 1) pools) (sym at))
    ∙ ap (λ (caps : List WeightedCap). cap_in pool ∷ caps) (sym (drop-map cap_in (i + 1) pools))

-- a pool that isn't loaded above its cap
pub cap-passed : (quantities : List ℕ) (pools : List Pool) (i load : ℕ) (pool : Pool) → i < length pools
    → pool ≡ slice_index_or pools i pool → load ≡ weighed pool.weights quantities → load ≤ pool.cap
    → position_from (is_over quantities) i (drop i (map cap_in pools)) ≡ position_from (is_over quantities) (i + 1) (drop (i + 1) (map cap_in pools))
cap-passed quantities pools i load pool small at load_is within =
    let failed : nat_lt pool.cap (weighed pool.weights quantities) ≡ false = grind (arith, nat_tests) in
    rw (caps-from pools i pool small at, failed) refl

-- the first one that is
pub cap-found : (t : Terms) (quantities : List ℕ) (i load : ℕ) (pool : Pool) → i < length t.pools → pool ≡ slice_index_or t.pools i pool
    → load ≡ weighed pool.weights quantities → pool.cap < load
    → position_from (is_over quantities) 0 (map cap_in t.pools) ≡ position_from (is_over quantities) i (drop i (map cap_in t.pools))
    → Some (reason.OverCap i load pool.cap) ≡ over_cap (lots_in t) quantities
cap-found t quantities i load pool small at load_is above so_far =
    let passed : nat_lt pool.cap (weighed pool.weights quantities) ≡ true = grind (arith, nat_tests) in
    let found : position_from (is_over quantities) 0 (map cap_in t.pools) ≡ Some i = rw (caps-from t.pools i pool small at, passed) at so_far in
    let here : pool_at (lots_in t) i ≡ cap_in pool = get_or-map cap_in t.pools i pool (record { cap = 0; weights = [] }) small ∙ ap cap_in (sym at) in
    let reported : ℕ → Reason = λ place. reason.OverCap place (weighed (pool_at (lots_in t) place).weights quantities) (pool_at (lots_in t) place).cap in
    sym (ap (λ (o : Option ℕ). option_map reported o) found ∙ ap (λ (c : WeightedCap). Some
    (reason.OverCap i (weighed c.weights quantities) c.cap)) here ∙ ap (λ (n : ℕ). Some (reason.OverCap i n pool.cap)) (sym load_is))
