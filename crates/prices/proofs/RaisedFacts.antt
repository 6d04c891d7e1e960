-- What a bound on the raised program, in parts of a pound, says of allocations.
use Rattle.std.proofs.Common.{◌≡◌, ℕ, ◌+◌, ◌*◌, ◌≤◌, ◌==◌, Bool, true, false, List, [], ◌∷◌, ◌++◌, Option, Some, None, cond, eqb-true, map, refl, sym}
use Rattle.std.proofs.Common.{subst, ap, ◌∙◌, arith, ℤ, pos, neg_ℤ, ◌+ℤ◌, ◌-ℤ◌}
use Rattle.std.specs.Prelude.{codes, sum_by, ◌*ℤ◌}
use Rattle.std.specs.Option.{option_map_or, option_to_list}
use Rattle.std.specs.List.{AllByRecursion, enumerate_from}
use Rattle.std.proofs.lemmas.Bool.{both_ways}
use Rattle.std.proofs.lemmas.Int.{ints}
use Rattle.std.proofs.lemmas.List.Sums.{sum_by-append, sum_by-cons}
use Rattle.std.proofs.lemmas.List.Elements.{recursion_from_All}
use Rattle.std.proofs.Math.Nat.{mul-le-mul_left}
use Rattle.auction_terms.specs.declared.bids.Choice.{Choice}
use Rattle.auction_terms.specs.Packages.{Lots, worth_of_all}
use Rattle.auction_terms.specs.Domination.{net}
use Rattle.auction_terms.specs.Allocations.{Book, total, IsFeasible}
use Rattle.auction_terms.specs.Keeping.{Offer, kept_of, is_kept_choice}
use Rattle.auction_terms.specs.Limits.{IsBook}
use Rattle.auction_terms.proofs.LimitFacts.{kept_are_offers, sized}
use Rattle.auction_terms.proofs.AllocationFacts.{IsGood, good, stand_in_feasible, stand_in_total}
use Rattle.auction_terms.proofs.OfferFacts.{all_agree}
use Rattle.program_rows.specs.declared.column.Bounds.TheVariants.{One}
use Rattle.program_rows.specs.declared.subject.Subject.{Subject}
use Rattle.program_rows.specs.Program.{Table, TableColumn}
use Rattle.program_rows.specs.Points.{AreAllowed, IsPoint, coefficient_at, meets, objective, row_sum, sum_at_one}
use Rattle.program_rows.specs.Rows.{column_of, program_of, subjects, worth_column}
use Rattle.program_rows.specs.Spelling.{column_bid}
use Rattle.program_rows.specs.Faithful.{back}
use Rattle.program_rows.proofs.EachFacts.{each}
use Rattle.program_rows.proofs.FaithfulFacts.{IsNumbered, back_is, chosen, counted_members, exact_point, measured, numbered, presolved_is_faithful, values_of}
use Rattle.program_rows.proofs.SpellingFacts.{reads_back}
use Rattle.optimality.specs.Laws.{IsBound}
use Rattle.optimality.proofs.BoundFacts.{shown-is-bound}
use Rattle.optimality.proofs.ProductFacts.{times-sum}
use Rattle.prices.specs.Blocking.{ArePrices, revenue, surplus}
use Rattle.prices.specs.Parts.{AreAtLeastReserves, Suffice}
use Rattle.prices.specs.Raised.{RaisedBoundExcludesBlocking, ShownSuffice, raised, raised_bound, raised_column, raised_program}
use Rattle.prices.proofs.BlockingFacts.{instead, unblocked_suffice}

-- ---------- points of the raised program ----------

same_row : (parts : ℕ) (raise : ℕ → ℕ) (row : ℕ) (cs : List TableColumn) (vs : List Bool)
    → sum_at_one (coefficient_at row) (map (raised_column parts raise) cs) vs ≡ sum_at_one (coefficient_at row) cs vs
same_row parts raise row [] [] = refl
same_row parts raise row [] (v ∷ vs) = refl
same_row parts raise row (c ∷ cs) [] = refl
same_row parts raise row (c ∷ cs) (true ∷ vs) = ap (λ (n : ℤ). coefficient_at row c +ℤ n) (same_row parts raise row cs vs)
same_row parts raise row (c ∷ cs) (false ∷ vs) = same_row parts raise row cs vs

allowed_up : (parts : ℕ) (raise : ℕ → ℕ) (cs : List TableColumn) (vs : List Bool) → AreAllowed cs vs → AreAllowed (map (raised_column parts raise) cs) vs
allowed_up parts raise [] [] h = tt
allowed_up parts raise (c ∷ cs) (v ∷ vs) h = (h.0, allowed_up parts raise cs vs h.1)
allowed_up parts raise _ _ h = absurd h

allowed_down : (parts : ℕ) (raise : ℕ → ℕ) (cs : List TableColumn) (vs : List Bool) → AreAllowed (map (raised_column parts raise) cs) vs → AreAllowed cs vs
allowed_down parts raise [] [] h = tt
allowed_down parts raise (c ∷ cs) (v ∷ vs) h = (h.0, allowed_down parts raise cs vs h.1)
allowed_down parts raise _ _ h = absurd h

pub point_up : (parts : ℕ) (raise : ℕ → ℕ) (p : Table) (vs : List Bool) → IsPoint p vs → IsPoint (raised parts raise p) vs
point_up parts raise p vs h = record {
  allowed = allowed_up parts raise p.columns vs h.allowed;
  met = all_agree (λ r. meets r.1.kind (row_sum p vs r.0) r.1.right_side ≡ true)
      (λ r. meets r.1.kind (row_sum (raised parts raise p) vs r.0) r.1.right_side ≡ true) (enumerate_from 0 p.rows)
      (λ r e. ap (λ (n : ℤ). meets r.1.kind n r.1.right_side) (same_row parts raise r.0 p.columns vs) ∙ e) h.met;
}

pub point_down : (parts : ℕ) (raise : ℕ → ℕ) (p : Table) (vs : List Bool) → IsPoint (raised parts raise p) vs → IsPoint p vs
point_down parts raise p vs h = record {
  allowed = allowed_down parts raise p.columns vs h.allowed;
  met = all_agree (λ r. meets r.1.kind (row_sum (raised parts raise p) vs r.0) r.1.right_side ≡ true)
      (λ r. meets r.1.kind (row_sum p vs r.0) r.1.right_side ≡ true) (enumerate_from 0 p.rows)
      (λ r e. ap (λ (n : ℤ). meets r.1.kind n r.1.right_side) (sym (same_row parts raise r.0 p.columns vs)) ∙ e) h.met;
}

-- ---------- objectives of the raised program ----------

-- what the bids of these columns are raised by together
abbrev pub raises : (ℕ → ℕ) → List Choice → ℕ
raises raise a = sum_by (λ c. raise c.bidder) a

-- what a column costs if it is of no bid; 0 if it is of one
abbrev constant_if : Option Choice → ℤ → ℤ
constant_if bid cost = option_map_or (λ (b : Choice). pos 0) bid cost

abbrev constant : TableColumn → ℤ
constant c = constant_if (column_bid c.name) c.cost

-- the raised cost of a column, and its constant in parts, are its cost in parts, and what its bid is raised by
one_cost : (parts : ℕ) (raise : ℕ → ℕ) (cost : ℤ) (bid : Option Choice)
    → option_map_or (λ (b : Choice). (pos parts *ℤ cost) +ℤ pos (raise b.bidder)) bid (pos 0) +ℤ (pos parts *ℤ constant_if bid cost)
    ≡ (pos parts *ℤ cost) +ℤ pos (raises raise (option_to_list bid))
one_cost parts raise cost None = omega (arith, ints)
one_cost parts raise cost (Some bid) =
    let s : raises raise (bid ∷ []) ≡ raise bid.bidder + 0 = sum_by-cons (λ (b : Choice). raise b.bidder) bid [] in
    let none : pos parts *ℤ pos 0 ≡ pos 0 = (let zero_in : parts * 0 ≡ 0 = omega arith in ap pos zero_in) in
    omega (arith, ints)

sum_in_parts : (parts : ℕ) (raise : ℕ → ℕ) (cs : List TableColumn) (vs : List Bool)
    → sum_at_one (λ c. c.cost) (map (raised_column parts raise) cs) vs +ℤ (pos parts *ℤ sum_at_one constant cs vs)
    ≡ (pos parts *ℤ sum_at_one (λ c. c.cost) cs vs) +ℤ pos (raises raise (back cs vs))
sum_in_parts parts raise [] [] = omega (arith, ints)
sum_in_parts parts raise [] (v ∷ vs) = omega (arith, ints)
sum_in_parts parts raise (c ∷ cs) [] = omega (arith, ints)
sum_in_parts parts raise (c ∷ cs) (true ∷ vs) =
    let here = one_cost parts raise c.cost (column_bid c.name) in
    let later = sum_in_parts parts raise cs vs in
    let costs = times-sum (pos parts) c.cost (sum_at_one (λ c. c.cost) cs vs) in
    let constants = times-sum (pos parts) (constant c) (sum_at_one constant cs vs) in
    let both : raises raise (option_to_list (column_bid c.name) ++ back cs vs)
    ≡ raises raise (option_to_list (column_bid c.name)) + raises raise (back cs vs) = sum_by-append (λ (b : Choice). raise b.bidder)
    (option_to_list (column_bid c.name)) (back cs vs) in
    omega (arith, ints)
sum_in_parts parts raise (c ∷ cs) (false ∷ vs) = sum_in_parts parts raise cs vs

-- the column of what all lots are worth names no bid
names_none : column_bid (codes "K") ≡ None
unfolding column_bid
names_none = refl

abbrev last_column : Lots → TableColumn
last_column lots = record { name = codes "K"; bounds = One; cost = neg_ℤ (pos (worth_of_all lots)); entries = [] }

last_constant : (lots : Lots) (b : Bool) (vs : List Bool) → (worth_of_all lots == 0) ≡ b → AreAllowed (cond b [] (last_column lots ∷ [])) vs
    → sum_at_one constant (cond b [] (last_column lots ∷ [])) vs ≡ neg_ℤ (pos (worth_of_all lots))
last_constant lots true vs e a = ap (λ (n : ℕ). neg_ℤ (pos n)) (sym (eqb-true (worth_of_all lots) 0 e))
last_constant lots false [] e a = absurd a
last_constant lots false (true ∷ []) e a =
    let z : ℤ = neg_ℤ (pos (worth_of_all lots)) in
    let is : constant (last_column lots) ≡ z = ap (λ (bid : Option Choice). constant_if bid z) names_none in
    let s : constant (last_column lots) +ℤ pos 0 ≡ z = omega (arith, ints) in
    s
last_constant lots false (true ∷ v ∷ vs) e a = absurd a.1
last_constant lots false (false ∷ vs) e a = absurd (both_ways false refl a.0)

-- the columns of bids have no constant, and what all lots are worth is always in it
constant_is : (lots : Lots) (rows : List Subject) (kept : List Offer) (vs : List Bool) → AllByRecursion IsNumbered kept
    → AreAllowed (map (column_of lots rows) kept ++ worth_column lots) vs
    → sum_at_one constant (map (column_of lots rows) kept ++ worth_column lots) vs ≡ neg_ℤ (pos (worth_of_all lots))
constant_is lots rows [] vs n a = last_constant lots (worth_of_all lots == 0) vs refl a
constant_is lots rows (o ∷ kept) [] n a = absurd a
constant_is lots rows (o ∷ kept) (true ∷ vs) n a =
    let none : constant (column_of lots rows o) ≡ pos 0 = ap (λ (b : Option Choice). constant_if b (neg_ℤ (net lots o.bid))) (reads_back o.bidder o.number n.0) in
    let later = constant_is lots rows kept vs n.1 a.1 in
    omega (arith, ints)
constant_is lots rows (o ∷ kept) (false ∷ vs) n a = constant_is lots rows kept vs n.1 a.1

-- minus a total, in parts
total_in : (parts n : ℕ) (z : ℤ) → pos n ≡ neg_ℤ z → pos parts *ℤ z ≡ neg_ℤ (pos (parts * n))
total_in parts n z e =
    let none : z +ℤ pos n ≡ pos 0 = omega (arith, ints) in
    let scaled : pos parts *ℤ (z +ℤ pos n) ≡ pos parts *ℤ pos 0 = ap (λ (x : ℤ). pos parts *ℤ x) none in
    let zero_in : parts * 0 ≡ 0 = omega arith in
    let split = times-sum (pos parts) z (pos n) in
    omega (arith, ints)

-- ---------- the law ----------

module _ (lots : Lots) (book : Book) (raise : ℕ → ℕ) (within : IsBook lots book) where
  abbrev all : List Offer
  all = kept_of lots book (λ b. false)

  abbrev program : Table
  program = program_of lots all

  -- the columns of a kept allocation are raised by what its bidders are
  pub kept_raises : (a : List Choice) → AllByRecursion (λ c. is_kept_choice lots book (λ b. false) c ≡ true) a → IsFeasible lots book (λ b. false) a
      → raises raise (back program.columns (values_of lots book (λ b. false) (sized lots book within) a)) ≡ raises raise a
  kept_raises a k f =
      let v = values_of lots book (λ b. false) (sized lots book within) a in
      ap (raises raise) (back_is lots (subjects lots all) all v (numbered lots all (kept_are_offers lots book (λ b. false) within)))
      ∙ measured (λ c. raise c.bidder) (λ o. raise o.bidder) (chosen all v) (each _ (chosen all v) (λ o. refl))
      ∙ counted_members lots book (λ b. false) (sized lots book within) (λ c. raise c.bidder) a k f.one_bid_each

module _ (lots : Lots) (book : Book) (parts : ℕ) (raise : ℕ → ℕ) (within : IsBook lots book) where
  abbrev kept_program : Table
  kept_program = program_of lots (kept_of lots book (λ b. false))

  -- what all lots are worth, less a revenue
  abbrev bound_of : ℕ → ℤ
  bound_of r = pos (parts * worth_of_all lots) -ℤ pos r

  -- of a point with this objective, which is minus a total
  objective_is : (vs : List Bool) (n : ℕ) → IsPoint kept_program vs → pos n ≡ neg_ℤ (objective kept_program vs)
      → objective (raised parts raise kept_program) vs +ℤ pos (parts * n) ≡ pos (parts * worth_of_all lots) +ℤ pos (raises raise (back kept_program.columns vs))
  objective_is vs n is_point e =
      let all = kept_of lots book (λ b. false) in
      let sum = sum_in_parts parts raise kept_program.columns vs in
      let constants : sum_at_one constant kept_program.columns vs ≡ neg_ℤ (pos (worth_of_all lots)) =
      constant_is lots (subjects lots all) all vs (numbered lots all (kept_are_offers lots book (λ b. false) within)) is_point.allowed in
      let worth = total_in parts (worth_of_all lots) (sum_at_one constant kept_program.columns vs) (omega (arith, ints)) in
      let parsed = total_in parts n (objective kept_program vs) e in
      omega (arith, ints)

  kept_bound : (r : ℕ) → IsBound (raised parts raise kept_program) (bound_of r) → (a : List Choice) → IsFeasible lots book (λ b. false) a
      → AllByRecursion (λ c. is_kept_choice lots book (λ b. false) c ≡ true) a
      → parts * total lots book a ≤ r + raises raise a
  kept_bound r bound a f k =
      let v = values_of lots book (λ b. false) (sized lots book within) a in
      let exact = exact_point lots book (λ b. false) (sized lots book within) a k f in
      let least = bound v (point_up parts raise kept_program v exact.0) in
      let more = objective_is v (total lots book a) exact.0 exact.1 in
      let same = kept_raises lots book raise within a k f in
      omega (arith, ints)

  -- and so of all allocations
  bound_of_totals : (r : ℕ) → IsBound (raised parts raise kept_program) (bound_of r) → (a : List Choice) → IsFeasible lots book (λ b. false) a
      → parts * total lots book a ≤ r + raises raise a
  bound_of_totals r bound a f =
      let s = sized lots book within in
      let i = instead lots book raise a (recursion_from_All (IsGood lots book (λ b. false)) a (good lots book (λ b. false) s a f)) in
      let most = kept_bound r bound i.choices (stand_in_feasible lots book (λ b. false) a i.choices f i.stand_in) i.kept in
      let low : parts * total lots book a ≤ parts * total lots book i.choices =
      mul-le-mul_left parts (stand_in_total lots book (λ b. false) a i.choices s f i.stand_in) in
      let less = i.no_more in
      omega arith

  totals_bound : (r : ℕ) → ((a : List Choice) → IsFeasible lots book (λ b. false) a → parts * total lots book a ≤ r + raises raise a)
      → IsBound (raised parts raise kept_program) (bound_of r)
  totals_bound r h v is_point =
      let is_kept = point_down parts raise kept_program v is_point in
      let m = (presolved_is_faithful lots book (λ b. false) within).maps_back v is_kept in
      let most = h (back kept_program.columns v) m.feasible in
      let more = objective_is v (total lots book (back kept_program.columns v)) is_kept m.same_total in
      omega (arith, ints)

pub raised_bound_excludes : RaisedBoundExcludesBlocking
raised_bound_excludes lots book first parts price within = (
  λ bound. bound_of_totals lots book parts (surplus book first parts price) within (revenue lots book first parts price) bound,
  λ none. totals_bound lots book parts (surplus book first parts price) within (revenue lots book first parts price) none,
)

pub shown_suffice : ShownSuffice
shown_suffice reserves lots book first parts price certificate within feasible some prices meet shows =
    unblocked_suffice reserves lots book first parts price feasible some prices meet ((raised_bound_excludes lots book first parts price within).0
    (shown-is-bound (raised_program lots book first parts price) (raised_bound lots book first parts price) certificate shows))

-- the same of a program and a bound that are equal to it
pub bound_suffices : (reserves : List ℕ) (lots : Lots) (book : Book) (first : List Choice) (parts : ℕ) (price : ℕ → ℕ) (p : Table) (least : ℤ) → IsBook lots book
    → IsFeasible lots book (λ b. false) first → 1 ≤ parts → ArePrices book first parts price → AreAtLeastReserves reserves book first parts price
    → p ≡ raised_program lots book first parts price → least ≡ raised_bound lots book first parts price → IsBound p least
    → Suffice reserves lots book first parts price
bound_suffices reserves lots book first parts price p least within feasible some prices meet e f bound =
    let here = subst (λ (q : Table). IsBound q (raised_bound lots book first parts price)) e (subst (λ (z : ℤ). IsBound p z) f bound) in
    unblocked_suffice reserves lots book first parts price feasible some prices meet ((raised_bound_excludes lots book first parts price within).0 here)
