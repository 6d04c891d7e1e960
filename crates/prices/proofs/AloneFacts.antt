-- What listed groups give is what the winners cost alone.
use Rattle.std.proofs.Common.{◌≡◌, ℕ, zero, suc, ◌+◌, ◌<◌, ◌≤◌, Bool, true, false, List, [], ◌∷◌, Option, Some, None, ⊎_elim, append-nil, append_assoc, drop, drop-cons, ◌++◌, length, slice_index_or, refl, sym, ap, ◌∙◌, subst, arith, eqb-true, eq-eqb, pos, ◌-ℤ◌}
use Rattle.std.specs.Prelude.{Result, Ok, Err, ◌==◌, slice_index, count_by, unsigned_abs, if◌then◌else◌, not, is_some}
use Rattle.std.specs.Int.{int_max}
use Rattle.std.specs.List.{AllZip}
use Rattle.std.specs.Option.{ok_or, option_map, option_map_or}
use Rattle.std.proofs.lemmas.Bool.{and_parts, cases_Bool, false_from_ne_true}
use Rattle.std.proofs.lemmas.List.{drop_all}
use Rattle.auction_terms.specs.declared.bids.Choice.{Choice}
use Rattle.auction_terms.specs.Groups.{has}
use Rattle.auction_terms.specs.Packages.{Lots}
use Rattle.auction_terms.specs.Allocations.{Book, bid_of, total, weighed_choice}
use Rattle.auction_terms.specs.Stages.{and_then, each_in_turn}
use Rattle.auction_terms.proofs.AllocationFacts.{value_of}
use Rattle.outcome.specs.Pricing.{price_in}
use Rattle.outcome.specs.Report.{amounts_of_group}
use Rattle.program_rows.specs.Faithful.{IsGreatest}
use Rattle.prices.specs.declared.alone.AloneFault.{AloneFault}
use Rattle.prices.specs.Alone.{ListedAreCostsAlone, bidder_alone, choice_won, cost_alone, is_alone, winner_alone, without_alone}
use Rattle.prices.proofs.CodeFacts.{found_twice, fewer_later}
use Rattle.prices.proofs.FewFacts.{bidder_at}

-- ---------- groups of one ----------

pub is_alone_is : (b : ℕ) (group : List ℕ) → is_alone b group ≡ true → group ≡ b ∷ []
is_alone_is b [] h =
    let both = and_parts (length {A = ℕ} [] == 1) (slice_index [] 0 == b) h in
    let one = eqb-true (length {A = ℕ} []) 1 both.0 in
    absurd (omega arith)
is_alone_is b (x ∷ []) h =
    let both = and_parts (length (x ∷ []) == 1) (slice_index (x ∷ []) 0 == b) h in
    ap (λ (n : ℕ). n ∷ []) (eqb-true x b both.1)
is_alone_is b (x ∷ y ∷ group) h =
    let both = and_parts (length (x ∷ y ∷ group) == 1) (slice_index (x ∷ y ∷ group) 0 == b) h in
    let one = eqb-true (length (x ∷ y ∷ group)) 1 both.0 in
    absurd (omega arith)

pub if_true : {A : Type 0} (t : Bool) (x y : A) → t ≡ true → (if t then x else y) ≡ x
if_true true x y h = refl
if_true false x y h = cc

pub if_false : {A : Type 0} (t : Bool) (x y : A) → t ≡ false → (if t then x else y) ≡ y
if_false true x y h = cc
if_false false x y h = refl

some_same : {A : Type 0} (x y : A) → ◌≡◌ {A = Option A} (Some x) (Some y) → x ≡ y
some_same x y e = cc

-- the allocation that is found is without the bidder
greatest_alone : (lots : Lots) (book : Book) (groups : List (List ℕ)) (won : List (List Choice)) (b : ℕ) (without : List Choice)
    → AllZip (λ group a. IsGreatest lots book (has group) a) groups won → without_alone groups won b ≡ Some without
    → IsGreatest lots book (has (b ∷ [])) without
greatest_alone lots book [] [] b without h e = cc
greatest_alone lots book [] (w ∷ won) b without h e = cc
greatest_alone lots book (group ∷ groups) [] b without h e = cc
greatest_alone lots book (group ∷ groups) (w ∷ won) b without h e = ⊎_elim
    (λ t.
    let is = is_alone_is b group t in
    let same = some_same w without (sym (if_true (is_alone b group) (Some w) (without_alone groups won b) t) ∙ e) in
    subst (λ (v : List Choice). IsGreatest lots book (has (b ∷ [])) v) same (subst (λ (g : List ℕ). IsGreatest lots book (has g) w) is h.0))
    (λ t. greatest_alone lots book groups won b without h.1 (sym (if_false (is_alone b group) (Some w) (without_alone groups won b) t) ∙ e))
    (cases_Bool (is_alone b group))

-- ---------- one group after the other ----------

alone_step : (groups : List (List ℕ)) (won : List (List Choice)) (b i : ℕ) (d : List Choice) → i < length groups → i < length won
    → without_alone (drop i groups) (drop i won) b
    ≡ (if is_alone b (slice_index_or groups i []) then Some (slice_index_or won i d) else without_alone (drop (i + 1) groups) (drop (i + 1) won) b)
alone_step [] won b i d l m = absurd (omega arith)
alone_step (group ∷ groups) [] b i d l m = absurd (omega arith)
alone_step (group ∷ groups) (w ∷ won) b zero d l m = refl
alone_step (group ∷ groups) (w ∷ won) b (suc i) d l m =
    let after : suc i + 1 ≡ suc (i + 1) = omega arith in
    alone_step groups won b i d (omega arith) (omega arith)
    ∙ ap (λ (k : ℕ). if is_alone b (slice_index_or groups i []) then Some (slice_index_or won i d) else without_alone (drop k (group ∷ groups)) (drop k (w ∷ won)) b) (sym after)

module _ (groups : List (List ℕ)) (won : List (List Choice)) (b i k : ℕ) (group : List ℕ) where
  of_group : k ≡ i → group ≡ slice_index_or groups k [] → group ≡ slice_index_or groups i []
  of_group e f = f ∙ ap (λ (n : ℕ). slice_index_or groups n []) e

  pub alone_found : (d : List Choice) → i < length groups → i < length won → k ≡ i → group ≡ slice_index_or groups k [] → is_alone b group ≡ true
      → without_alone (drop i groups) (drop i won) b ≡ without_alone groups won b
      → without_alone groups won b ≡ Some (slice_index_or won i d)
  alone_found d l m e f t h = sym h ∙ alone_step groups won b i d l m
      ∙ if_true (is_alone b (slice_index_or groups i [])) (Some (slice_index_or won i d)) (without_alone (drop (i + 1) groups) (drop (i + 1) won) b)
      (ap (is_alone b) (sym (of_group e f)) ∙ t)

  pub alone_goes_on : i < length groups → i < length won → k ≡ i → group ≡ slice_index_or groups k [] → is_alone b group ≡ false
      → without_alone (drop i groups) (drop i won) b ≡ without_alone groups won b
      → without_alone (drop (i + 1) groups) (drop (i + 1) won) b ≡ without_alone groups won b
  alone_goes_on l m e f t h = sym (if_false (is_alone b (slice_index_or groups i [])) (Some (slice_index_or won i [])) (without_alone (drop (i + 1) groups) (drop (i + 1) won) b)
      (ap (is_alone b) (sym (of_group e f)) ∙ t)) ∙ sym (alone_step groups won b i [] l m) ∙ h

no_groups : (won : List (List Choice)) (b : ℕ) → without_alone [] won b ≡ None
no_groups [] b = refl
no_groups (w ∷ won) b = refl

pub alone_ends : (groups : List (List ℕ)) (won : List (List Choice)) (b i : ℕ) → length groups ≤ i
    → without_alone (drop i groups) (drop i won) b ≡ without_alone groups won b → without_alone groups won b ≡ None
alone_ends groups won b i l h = sym h ∙ ap (λ (x : List (List ℕ)). without_alone x (drop i won) b) (drop_all i groups l) ∙ no_groups (drop i won) b

split_drop : {X : Type 0} (xs : List X) (i : ℕ) → i < length xs → (x : X) × (drop i xs ≡ x ∷ drop (i + 1) xs)
split_drop [] i l = absurd (omega arith)
split_drop (x ∷ xs) zero l = (x, refl)
split_drop (x ∷ xs) (suc i) l =
    let (y, next) = split_drop xs i (omega arith) in
    let after : suc i + 1 ≡ suc (i + 1) = omega arith in
    (y, next ∙ ap (λ (k : ℕ). y ∷ drop k (x ∷ xs)) (sym after))

-- ---------- one winner after the other ----------

choice_step : (xs : List Choice) (b i : ℕ) (d : Choice) → i < length xs
    → choice_won (drop i xs) b ≡ (if (slice_index_or xs i d).bidder == b then Some (slice_index_or xs i d) else choice_won (drop (i + 1) xs) b)
choice_step xs b i d l =
    let after : i + 1 ≡ suc i = omega arith in
    ap (λ (ys : List Choice). choice_won ys b) (drop-cons xs i d l)
    ∙ ap (λ (k : ℕ). if (slice_index_or xs i d).bidder == b then Some (slice_index_or xs i d) else choice_won (drop k xs) b) (sym after)

module _ (xs ys : List Choice) (b i : ℕ) (d : Choice) (same : ys ≡ xs) (l : i < length ys) (so_far : choice_won (drop i xs) b ≡ choice_won xs b) where
  within : i < length xs
  within = subst (λ (zs : List Choice). i < length zs) same l

  pub choice_now : (slice_index_or ys i d).bidder ≡ b → choice_won xs b ≡ Some (slice_index_or ys i d)
  choice_now e =
      let here : (slice_index_or xs i d).bidder ≡ b = subst (λ (zs : List Choice). (slice_index_or zs i d).bidder ≡ b) same e in
      sym so_far ∙ choice_step xs b i d within
      ∙ if_true ((slice_index_or xs i d).bidder == b) (Some (slice_index_or xs i d)) (choice_won (drop (i + 1) xs) b) (eq-eqb (slice_index_or xs i d).bidder b here)
      ∙ ap (λ (zs : List Choice). Some (slice_index_or zs i d)) (sym same)

  pub choice_later : ((slice_index_or ys i d).bidder ≡ b → ⊥) → choice_won (drop (i + 1) xs) b ≡ choice_won xs b
  choice_later other_one =
      let other : ((slice_index_or xs i d).bidder == b) ≡ false = false_from_ne_true ((slice_index_or xs i d).bidder == b)
      (λ t. other_one (subst (λ (zs : List Choice). (slice_index_or zs i d).bidder ≡ b) (sym same) (eqb-true (slice_index_or xs i d).bidder b t))) in
      sym (if_false ((slice_index_or xs i d).bidder == b) (Some (slice_index_or xs i d)) (choice_won (drop (i + 1) xs) b) other)
      ∙ sym (choice_step xs b i d within) ∙ so_far

pub choice_none : (xs ys : List Choice) (b i : ℕ) → ys ≡ xs → length ys ≤ i → choice_won (drop i xs) b ≡ choice_won xs b → choice_won xs b ≡ None
choice_none xs ys b i same l h =
    sym h ∙ ap (λ (zs : List Choice). choice_won zs b) (drop_all i xs (subst (λ (zs : List Choice). length zs ≤ i) same l))

-- ---------- the costs of all bidders ----------

-- those so far, and what comes of the others
abbrev pub onto : {E : Type 0} → List ℕ → Result (List ℕ) E → Result (List ℕ) E
onto costs r = and_then r (λ more. Ok (costs ++ more))

pub onto_nothing : {E : Type 0} (r : Result (List ℕ) E) → onto [] r ≡ r
onto_nothing (Ok more) = refl
onto_nothing (Err e) = refl

onto_next : {E : Type 0} (costs : List ℕ) (v : ℕ) (r : Result (List ℕ) E) → onto costs (and_then r (λ more. Ok (v ∷ more))) ≡ onto (costs ++ v ∷ []) r
onto_next costs v (Ok more) = ap Ok (sym (append_assoc costs (v ∷ []) more))
onto_next costs v (Err e) = refl

module _ {X E : Type 0} (f : ℕ → Result ℕ E) (xs : List X) (i k : ℕ) (costs : List ℕ) (all : Result (List ℕ) E) (place : k ≡ i + 1) (l : i < length xs)
    (so_far : onto costs (each_in_turn (λ b x. f b) (i + 1) (drop i xs)) ≡ all) where
  turn_step : each_in_turn (λ b x. f b) (i + 1) (drop i xs)
      ≡ and_then (f (i + 1)) (λ y. and_then (each_in_turn (λ b x. f b) ((i + 1) + 1) (drop (i + 1) xs)) (λ more. Ok (y ∷ more)))
  turn_step = let (x, next) = split_drop xs i l in ap (each_in_turn (λ b x. f b) (i + 1)) next

  pub turn_goes_on : (v : ℕ) (new : List ℕ) → f k ≡ Ok v → new ≡ costs ++ v ∷ []
      → onto new (each_in_turn (λ b x. f b) ((i + 1) + 1) (drop (i + 1) xs)) ≡ all
  turn_goes_on v new e pushed =
      let rest : Result (List ℕ) E = each_in_turn (λ b x. f b) ((i + 1) + 1) (drop (i + 1) xs) in
      let here : f (i + 1) ≡ Ok v = ap f (sym place) ∙ e in
      ap (λ (zs : List ℕ). onto zs rest) pushed ∙ sym (onto_next costs v rest)
      ∙ sym (ap (onto costs) (turn_step ∙ ap (λ (r : Result ℕ E). and_then r (λ y. and_then rest (λ more. Ok (y ∷ more)))) here)) ∙ so_far

  pub turn_fails : (e : E) → f k ≡ Err e → all ≡ Err e
  turn_fails e fault =
      let rest : Result (List ℕ) E = each_in_turn (λ b x. f b) ((i + 1) + 1) (drop (i + 1) xs) in
      let here : f (i + 1) ≡ Err e = ap f (sym place) ∙ fault in
      sym so_far ∙ ap (onto costs) (turn_step ∙ ap (λ (r : Result ℕ E). and_then r (λ y. and_then rest (λ more. Ok (y ∷ more)))) here)

pub turn_ends : {X E : Type 0} (f : ℕ → Result ℕ E) (xs : List X) (i : ℕ) (costs : List ℕ) (all : Result (List ℕ) E) → length xs ≤ i
    → onto costs (each_in_turn (λ b x. f b) (i + 1) (drop i xs)) ≡ all → all ≡ Ok costs
turn_ends f xs i costs all l h =
    sym h ∙ ap (λ (ys : List _). onto costs (each_in_turn (λ b x. f b) (i + 1) ys)) (drop_all i xs l) ∙ ap Ok (append-nil costs)

pub record Turn {E : Type 0} (r : Result ℕ E) (s : Result (List ℕ) E) (ys : List ℕ) : Type 0 where
  pub here : ℕ
  pub more : List ℕ
  pub is_here : r ≡ Ok here
  pub is_more : s ≡ Ok more
  pub both : ys ≡ here ∷ more

lists_same : {E : Type 0} (x y : List ℕ) → ◌≡◌ {A = Result (List ℕ) E} (Ok x) (Ok y) → x ≡ y
lists_same x y e = cc

turn : {E : Type 0} (r : Result ℕ E) (s : Result (List ℕ) E) (ys : List ℕ)
    → and_then r (λ y. and_then s (λ more. Ok (y ∷ more))) ≡ Ok ys → Turn r s ys
turn (Ok y) (Ok more) ys h = record { here = y; more = more; is_here = refl; is_more = refl; both = sym (lists_same (y ∷ more) ys h) }
turn (Ok y) (Err e) ys h = cc
turn (Err e) s ys h = cc

-- the cost of one of them
turn_at : {X E : Type 0} (f : ℕ → Result ℕ E) (n : ℕ) (xs : List X) (ys : List ℕ) (i : ℕ) → each_in_turn (λ b x. f b) n xs ≡ Ok ys
    → i < length xs → f (n + i) ≡ Ok (slice_index ys i)
turn_at f n [] ys i h l = absurd (omega arith)
turn_at f n (x ∷ xs) ys zero h l =
    let t = turn (f n) (each_in_turn (λ b x. f b) (n + 1) xs) ys h in
    let same : n + 0 ≡ n = omega arith in
    ap f same ∙ t.is_here ∙ ap (λ (zs : List ℕ). Ok (slice_index zs 0)) (sym t.both)
turn_at f n (x ∷ xs) ys (suc i) h l =
    let t = turn (f n) (each_in_turn (λ b x. f b) (n + 1) xs) ys h in
    let same : n + suc i ≡ (n + 1) + i = omega arith in
    ap f same ∙ turn_at f (n + 1) xs t.more i t.is_more (omega arith) ∙ ap (λ (zs : List ℕ). Ok (slice_index zs (suc i))) (sym t.both)

-- a bidder of the book has the cost that is listed
at_bidder : {X E : Type 0} (f : ℕ → Result ℕ E) (xs : List X) (ys : List ℕ) (b : ℕ) → each_in_turn (λ b x. f b) 1 xs ≡ Ok ys
    → 1 ≤ b → b ≤ length xs → f b ≡ Ok (price_in ys b)
at_bidder f xs ys zero h l m = absurd (omega arith)
at_bidder f xs ys (suc b) h l m =
    let same : 1 + b ≡ suc b = omega arith in
    ap f (sym same) ∙ turn_at f 1 xs ys b h (omega arith)

-- what the choice at a place is
choice_found : (b : ℕ) (xs : List Choice) (i : ℕ) (d : Choice) → i < length xs → (slice_index_or xs i d).bidder ≡ b
    → count_by (λ c. c.bidder == b) xs ≤ 1 → choice_won xs b ≡ Some (slice_index_or xs i d)
choice_found b [] i d l e h = absurd (omega arith)
choice_found b (c ∷ xs) zero d l e h = if_true (c.bidder == b) (Some c) (choice_won xs b) (eq-eqb c.bidder b e)
choice_found b (c ∷ xs) (suc i) d l e h = ⊎_elim
    (λ t. absurd (found_twice b c xs i d (omega arith) e t h))
    (λ t. if_false (c.bidder == b) (Some c) (choice_won xs b) t ∙ choice_found b xs i d (omega arith) e (fewer_later (λ x. 0) b c xs h))
    (cases_Bool (c.bidder == b))

-- what an allocation gives, if there is one
pub record Given (o : Option (List Choice)) (g : List Choice → ℕ) (n : ℕ) : Type 0 where
  pub without : List Choice
  pub is : o ≡ Some without
  pub gives : g without ≡ n

numbers_same : (x y : ℕ) → ◌≡◌ {A = Result ℕ AloneFault} (Ok x) (Ok y) → x ≡ y
numbers_same x y e = cc

given : (o : Option (List Choice)) (g : List Choice → ℕ) (f : AloneFault) (n : ℕ) → ok_or (option_map g o) f ≡ Ok n → Given o g n
given None g f n h = cc
given (Some without) g f n h = record { without = without; is = refl; gives = numbers_same (g without) n h }

pub listed_are_costs_alone : ListedAreCostsAlone
listed_are_costs_alone reserves lots book first groups won costs feasible greatest all k d l without best =
    let c : Choice = slice_index_or first k d in
    let there = value_of (bid_of book c) ((and_parts (not (has [] c.bidder)) (is_some (bid_of book c)) (feasible.eligible k d l)).1) in
    let known = bidder_at book c.bidder c.bid there.0 there.1 in
    let listed = at_bidder (bidder_alone reserves lots book first groups won) book costs c.bidder all known.0 known.1 in
    let chosen = choice_found c.bidder first k d l refl (feasible.one_bid_each c.bidder) in
    let winner : winner_alone reserves lots book first groups won c ≡ Ok (price_in costs c.bidder) =
    sym (ap (λ (o : Option Choice). option_map_or (winner_alone reserves lots book first groups won) o (Ok 0)) chosen) ∙ listed in
    let g = given (without_alone groups won c.bidder) (λ w. cost_alone reserves lots book first w c) _ (price_in costs c.bidder) winner in
    let other = greatest_alone lots book groups won c.bidder g.without greatest g.is in
    let low = best.greatest g.without other.feasible in
    let high = other.greatest without best.feasible in
    let same : total lots book g.without ≡ total lots book without = omega arith in
    sym g.gives ∙ ap (λ (n : ℕ). unsigned_abs (int_max (pos n -ℤ (pos (total lots book first) -ℤ pos (amounts_of_group book (c.bidder ∷ []) first)))
    (pos (weighed_choice reserves book c)))) same
