-- The program of the kept bids is faithful to the book.
use Rattle.std.proofs.Common.{◌≡◌, ℕ, zero, suc, ◌+◌, ◌<◌, ◌≤◌, Bool, true, false, not, ◌&&◌, ◌||◌, ◌==◌, nat_eq, cond}
use Rattle.std.proofs.Common.{List, [], ◌∷◌, ◌++◌, Option, Some, None, is_some, slice_get, slice_index, length, map, sym}
use Rattle.std.proofs.Common.{refl, ap, ap₂, ◌∙◌, subst, arith, ⊎_elim, eqb-true, eq-eqb, ne_eqb, leb-true, le-leb}
use Rattle.std.proofs.Common.{zero-add, add-zero, ℤ, pos, neg_ℤ, ◌+ℤ◌, ◌-ℤ◌, ◌≤ℤ◌}
use Rattle.std.specs.Prelude.{codes, sum_by, count_by, Contains, find, int_le, nat_le}
use Rattle.std.specs.List.{AllByRecursion, list_any, range_with_len, dedup, enumerate_from}
use Rattle.std.specs.Option.{option_map, option_map_or, option_to_list}
use Rattle.std.proofs.lemmas.Int.{ints}
use Rattle.std.proofs.lemmas.Bool.{and_parts, and_from, both_ways, cases_Bool, or_parts, cond-true, cond-false, and_left, false_from_ne_true, or_cases}
use Rattle.std.proofs.lemmas.List.Sums.{sum_by-cons}
use Rattle.std.proofs.lemmas.List.{get_or-map, length-map}
use Rattle.std.proofs.lemmas.List.Elements.{recursion_from_All, All-from_recursion, Contains-append_left, Contains-append_right}
use Rattle.std.proofs.lemmas.List.FromFn.{get_or-map-range_with_len, length-map-range_with_len}
use Rattle.std.proofs.lemmas.Option.{slice_get-get_or, slice_get-map}
use Rattle.std.proofs.lemmas.List.Kept.{Contains-dedup_nat}
use Rattle.auction_terms.specs.declared.bids.Bid.{Bid}
use Rattle.auction_terms.specs.declared.bids.Choice.{Choice}
use Rattle.auction_terms.specs.Packages.{Lots, pool_at, fits, weighed, worth, worth_of_all}
use Rattle.auction_terms.specs.Domination.{net, is_kept}
use Rattle.auction_terms.specs.Allocations.{Book, form_of, bid_of, amount_of, loads, total, is_eligible, IsFeasible, IsSized}
use Rattle.auction_terms.specs.Keeping.{Offer, offers_from, kept_of, is_kept_choice}
use Rattle.auction_terms.specs.inside.Keeping.{is_kept_offer, choice_of}
use Rattle.auction_terms.specs.Limits.{AreOffers}
use Rattle.auction_terms.proofs.AllocationFacts.{kept_are_enough, feasible_at, feasible_pool, feasible_from, total_is, worths}
use Rattle.auction_terms.proofs.OfferFacts.{sum_zero, sum_agree, sum_plus, sum_filter, all_agree, all_filter, at_choice, stands}
use Rattle.auction_terms.proofs.LimitFacts.{kept_are_offers, sized}
use Rattle.program_rows.specs.declared.row.RowKind.TheVariants.{AtMost}
use Rattle.program_rows.specs.Program.{Table, TableRow, TableColumn}
use Rattle.program_rows.specs.Points.{sum_at_one, objective, coefficient_at, row_sum, meets, AreAllowed, IsPoint}
use Rattle.program_rows.specs.Spelling.{is_bid, column_bid}
use Rattle.auction_terms.specs.declared.limits.TheConstants.{MOST_BIDDERS, MOST_BIDS}
use Rattle.program_rows.specs.declared.subject.Subject.{Subject}
use Rattle.program_rows.specs.declared.subject.Subject.TheVariants.{Bidder, Category, Pool}
use Rattle.program_rows.specs.Rows.{weight, subjects, row_of, entries_from, column_of, worth_column, program_of}
use Rattle.program_rows.specs.Faithful.{back, Matched, PresolvedIsFaithful, LeastIsGreatest}
use Rattle.program_rows.specs.inside.Building.{IsThere}
use Rattle.program_rows.proofs.EachFacts.{at_place, each_map}
use Rattle.program_rows.proofs.LegalFacts.{all_there}
use Rattle.program_rows.proofs.NamedItemFacts.{stands as is_there}
use Rattle.program_rows.proofs.SpellingFacts.{reads_back}
use Rattle.program_rows.specs.declared.column.Bounds.TheVariants.{One}

-- ---------- the rows of subjects ----------

-- how much may count in the row
abbrev most : Lots → Subject → ℕ
most lots (Bidder b) = 1
most lots (Category c) = slice_index lots.supply c
most lots (Pool p) = (pool_at lots p).cap

row_meets : (lots : Lots) (s : Subject) (sum : ℤ) → meets (row_of lots s).kind sum (row_of lots s).right_side ≡ int_le sum (pos (most lots s))
row_meets lots (Bidder b) sum = refl
row_meets lots (Category c) sum = refl
row_meets lots (Pool p) sum = refl

-- ---------- lists ----------

from_map : {X Y : Type 0} (f : X → Y) (xs : List X) (k : ℕ) (y : Y) → slice_get (map f xs) k ≡ Some y → (x : X) × (slice_get xs k ≡ Some x) × (y ≡ f x)
from_map f [] k y e = cc
from_map f (x ∷ xs) zero y e = let same : f x ≡ y = cc in (x, refl, sym same)
from_map f (x ∷ xs) (suc k) y e = from_map f xs k y e

-- the subject of a place
in_kind : (kind : ℕ → Subject) (n k : ℕ) → k < n → Contains (map kind (range_with_len 0 n)) (kind k)
in_kind kind n k l = let many = length-map-range_with_len kind 0 n in (k, omega arith, get_or-map-range_with_len kind 0 n k k (kind k) l (omega arith))

-- a row with its place
row_at : (P : ℕ × TableRow → Type 0) (n m k : ℕ) (rows : List TableRow) (r : TableRow) → AllByRecursion P (enumerate_from n rows)
    → slice_get rows k ≡ Some r → m ≡ n + k → P (m, r)
row_at P n m k [] r h at e = cc
row_at P n m zero (q ∷ rows) r h at e = let same : q ≡ r =
    cc in let place : n ≡ m = omega arith in subst (λ (x : ℕ). P (x, r)) place (subst (λ (x : TableRow). P (n, x)) same h.0)
row_at P n m (suc k) (q ∷ rows) r h at e = row_at P (n + 1) m k rows r h.1 at (omega arith)

each_row : (P : ℕ × TableRow → Type 0) (n : ℕ) (rows : List TableRow)
    → ((m k : ℕ) (r : TableRow) → slice_get rows k ≡ Some r → m ≡ n + k → P (m, r)) → AllByRecursion P (enumerate_from n rows)
each_row P n [] h = tt
each_row P n (q ∷ rows) h = (h n 0 q refl (omega arith), each_row P (n + 1) rows (λ m k r at e. h m (suc k) r at (omega arith)))

-- ---------- the offers whose values are 1 ----------

abbrev pub chosen : List Offer → List Bool → List Offer
chosen [] p = []
chosen (o ∷ kept) [] = []
chosen (o ∷ kept) (true ∷ p) = o ∷ chosen kept p
chosen (o ∷ kept) (false ∷ p) = chosen kept p

pub chosen_all : (P : Offer → Type 0) (kept : List Offer) (p : List Bool) → AllByRecursion P kept → AllByRecursion P (chosen kept p)
chosen_all P [] p a = tt
chosen_all P (o ∷ kept) [] a = tt
chosen_all P (o ∷ kept) (true ∷ p) a = (a.0, chosen_all P kept p a.1)
chosen_all P (o ∷ kept) (false ∷ p) a = chosen_all P kept p a.1

abbrev pub IsNumbered : Offer → Type 0
IsNumbered o = is_bid o.bidder o.number ≡ true

pub numbered : (lots : Lots) (offers : List Offer) → AreOffers lots offers → AllByRecursion IsNumbered offers
numbered lots [] h = tt
numbered lots (o ∷ offers) h = (
  and_from (nat_le 1 o.bidder && nat_le o.bidder MOST_BIDDERS) (nat_le 1 o.number && nat_le o.number MOST_BIDS)
      (and_from (nat_le 1 o.bidder) (nat_le o.bidder MOST_BIDDERS) (le-leb 1 o.bidder h.0.bidder_from) (le-leb o.bidder MOST_BIDDERS h.0.bidder_to))
      (and_from (nat_le 1 o.number) (nat_le o.number MOST_BIDS) (le-leb 1 o.number h.0.number_from) (le-leb o.number MOST_BIDS h.0.number_to)),
  numbered lots offers h.2,
)

-- the column of what all lots are worth names no bid
names_none : column_bid (codes "K") ≡ None
unfolding column_bid
names_none = refl

column_names_none : (lots : Lots) (b : Bool) (p : List Bool)
    → back (cond b [] (record { name = codes "K"; bounds = One; cost = neg_ℤ (pos (worth_of_all lots)); entries = [] } ∷ [])) p ≡ []
column_names_none lots true p = refl
column_names_none lots false [] = refl
column_names_none lots false (true ∷ p) = ap (λ (x : Option Choice). option_to_list x ++ []) names_none
column_names_none lots false (false ∷ p) = refl

pub back_is : (lots : Lots) (rows : List Subject) (kept : List Offer) (p : List Bool) → AllByRecursion IsNumbered kept
    → back (map (column_of lots rows) kept ++ worth_column lots) p ≡ map choice_of (chosen kept p)
back_is lots rows [] p n = column_names_none lots (worth_of_all lots == 0) p
back_is lots rows (o ∷ kept) [] n = refl
back_is lots rows (o ∷ kept) (true ∷ p) n =
    ap (λ (x : Option Choice). option_to_list x ++ back (map (column_of lots rows) kept ++ worth_column lots) p)
    (reads_back o.bidder o.number n.0) ∙ ap (λ (xs : List Choice). choice_of o ∷ xs) (back_is lots rows kept p n.1)
back_is lots rows (o ∷ kept) (false ∷ p) n = back_is lots rows kept p n.1

-- a sum of numbers of columns, by the numbers of the offers, before columns that add nothing
sum_is : (f : TableColumn → ℤ) (g : Offer → ℕ) (lots : Lots) (rows : List Subject) (last : List TableColumn) (kept : List Offer)
    (p : List Bool) → ((o : Offer) → f (column_of lots rows o) ≡ pos (g o))
    → ((q : List Bool) → sum_at_one f last q ≡ pos 0) → sum_at_one f (map (column_of lots rows) kept ++ last) p ≡ pos (sum_by g (chosen kept p))
sum_is f g lots rows last [] p h z = z p
sum_is f g lots rows last (o ∷ kept) [] h z = refl
sum_is f g lots rows last (o ∷ kept) (true ∷ p) h z =
    ap (λ (n : ℤ). n +ℤ sum_at_one f (map (column_of lots rows) kept ++ last) p) (h o)
    ∙ ap (λ (n : ℤ). pos (g o) +ℤ n) (sum_is f g lots rows last kept p h z)
    ∙ ap (λ (n : ℕ). pos n) (sym (sum_by-cons g o (chosen kept p)))
sum_is f g lots rows last (o ∷ kept) (false ∷ p) h z = sum_is f g lots rows last kept p h z

-- the column of what all lots are worth has no entry in a row
in_no_row : (lots : Lots) (row : ℕ) (b : Bool) (q : List Bool)
    → sum_at_one (coefficient_at row) (cond b [] (record {
      name = codes "K";
      bounds = One;
      cost = neg_ℤ (pos (worth_of_all lots));
      entries =
          [];
    } ∷ [])) q ≡ pos 0
in_no_row lots row true q = refl
in_no_row lots row false [] = refl
in_no_row lots row false (true ∷ q) = refl
in_no_row lots row false (false ∷ q) = refl

-- and is always 1
always_one : (lots : Lots) (b : Bool) (q : List Bool) → (worth_of_all lots == 0) ≡ b
    → AreAllowed (cond b [] (record { name = codes "K"; bounds = One; cost = neg_ℤ (pos (worth_of_all lots)); entries = [] } ∷ [])) q
    → sum_at_one (λ c. c.cost) (cond b [] (record { name = codes "K"; bounds = One; cost = neg_ℤ (pos (worth_of_all lots)); entries = [] } ∷
    [])) q ≡ neg_ℤ (pos (worth_of_all lots))
always_one lots true q e a = ap (λ (n : ℕ). neg_ℤ (pos n)) (sym (eqb-true (worth_of_all lots) 0 e))
always_one lots false [] e a = absurd a
always_one lots false (true ∷ []) e a = let z : ℤ = neg_ℤ (pos (worth_of_all lots)) in let s : z +ℤ pos 0 ≡ z = omega (arith, ints) in s
always_one lots false (true ∷ v ∷ q) e a = absurd a.1
always_one lots false (false ∷ q) e a = absurd (both_ways false refl a.0)

-- what the offers' lots are worth unsold
abbrev pub worth_offered : Lots → Offer → ℕ
worth_offered lots o = worth lots o.bid.package

one_cost : (a w n : ℕ) (c s all : ℤ) → c ≡ neg_ℤ (pos a -ℤ pos w) → s +ℤ pos n ≡ all → (c +ℤ s) +ℤ pos (a + n) ≡ pos w +ℤ all
one_cost a w n c s all e h = omega (arith, ints)

-- the costs of the offers at 1, and their amounts, are what their packages are worth, less what all lots are worth
cost_is : (lots : Lots) (rows : List Subject) (kept : List Offer) (p : List Bool) → AreAllowed (map (column_of lots rows) kept ++ worth_column lots) p
    → sum_at_one (λ c. c.cost) (map (column_of lots rows) kept ++ worth_column lots) p +ℤ pos (sum_by (λ o. o.bid.amount) (chosen kept p))
    ≡ pos (sum_by (worth_offered lots) (chosen kept p)) +ℤ neg_ℤ (pos (worth_of_all lots))
cost_is lots rows [] p a =
    let v : ℤ = neg_ℤ (pos (worth_of_all lots)) in
    let s : ℤ = sum_at_one (λ c. c.cost) (worth_column lots) p in
    let e : s ≡ v = always_one lots (worth_of_all lots == 0) p refl a in
    let t : s +ℤ pos 0 ≡ pos 0 +ℤ v = omega (arith, ints) in
    t
cost_is lots rows (o ∷ kept) [] a = absurd a
cost_is lots rows (o ∷ kept) (true ∷ p) a =
    let v : ℤ = neg_ℤ (pos (worth_of_all lots)) in
    let s : ℤ = sum_at_one (λ c. c.cost) (map (column_of lots rows) kept ++ worth_column lots) p in
    let m : ℕ = sum_by (λ o. o.bid.amount) (chosen kept p) in
    let w : ℕ = sum_by (worth_offered lots) (chosen kept p) in
    let c : ℤ = neg_ℤ (net lots o.bid) in
    let h : s +ℤ pos m ≡ pos w +ℤ v = cost_is lots rows kept p a.1 in
    let t : (c +ℤ s) +ℤ pos (o.bid.amount + m) ≡ pos (worth_offered lots o) +ℤ (pos w +ℤ v) =
    one_cost o.bid.amount (worth_offered lots o) m c s (pos w +ℤ v) refl h in
    let u : pos (worth_offered lots o) +ℤ (pos w +ℤ v) ≡ pos (worth_offered lots o + w) +ℤ v = omega (arith, ints) in
    ap (λ (n : ℕ). (c +ℤ s) +ℤ pos n) (sum_by-cons (λ (o : Offer). o.bid.amount) o (chosen kept p)) ∙ t ∙ u
    ∙ ap (λ (n : ℕ). pos n +ℤ v) (sym (sum_by-cons (worth_offered lots) o (chosen kept p)))
cost_is lots rows (o ∷ kept) (false ∷ p) a = cost_is lots rows kept p a.1

-- ---------- coefficients ----------

abbrev coefficient : List (ℕ × ℤ) → ℕ → ℤ
coefficient es row = option_map_or (λ e. e.1) (find (λ e. e.0 == row) es) (pos 0)

abbrev second : Option (ℕ × ℤ) → ℤ
second o = option_map_or (λ e. e.1) o (pos 0)

-- an entry of another row
other_is : (r n w v : ℕ) (es : List (ℕ × ℤ)) (b : Bool) → (r ≡ n → ⊥) → coefficient es n ≡ pos v → coefficient (cond b es ((r, pos w) ∷ es)) n ≡ pos v
other_is r n w v es true differ h = h
other_is r n w v es false differ h = ap second (cond-false (r == n) (Some (r, pos w)) (find (λ e. e.0 == n) es) (ne_eqb r n differ)) ∙ h

absent : (lots : Lots) (r n : ℕ) (rows : List Subject) (o : Offer) → n < r → coefficient (entries_from lots r rows o) n ≡ pos 0
absent lots r n [] o l = refl
absent lots r n (s ∷ rows) o l = other_is r n (weight lots s o) 0 (entries_from lots (r + 1) rows o) (weight lots s o == 0)
    (λ e. omega arith) (absent lots (r + 1) n rows o (omega arith))

here_is : (r : ℕ) (w : ℕ) (es : List (ℕ × ℤ)) (b : Bool) → (w == 0) ≡ b → coefficient es r ≡ pos 0 → coefficient (cond b es ((r, pos w) ∷ es)) r ≡ pos w
here_is r w es true e h = h ∙ ap (λ (n : ℕ). pos n) (sym (eqb-true w 0 e))
here_is r w es false e h = ap second (cond-true (r == r) (Some (r, pos w)) (find (λ e. e.0 == r) es) (eq-eqb r r refl))

coefficient_is : (lots : Lots) (r n k : ℕ) (rows : List Subject) (o : Offer) (s : Subject) → slice_get rows k ≡ Some s → n ≡ r + k
    → coefficient (entries_from lots r rows o) n ≡ pos (weight lots s o)
coefficient_is lots r n k [] o s at e = cc
coefficient_is lots r n zero (t ∷ rows) o s at e =
    let same : t ≡ s = cc in
    let place : r ≡ n = omega arith in
    let h = here_is r (weight lots t o) (entries_from lots (r + 1) rows o) (weight lots t o == 0) refl (absent lots (r + 1) r rows o (omega arith)) in
    ap (λ (m : ℕ). coefficient (entries_from lots r (t ∷ rows) o) m) (sym place) ∙ h ∙ ap (λ (u : Subject). pos (weight lots u o)) same
coefficient_is lots r n (suc k) (t ∷ rows) o s at e =
    other_is r n (weight lots t o) (weight lots s o) (entries_from lots (r + 1) rows o) (weight lots t o == 0) (λ same. omega arith)
    (coefficient_is lots (r + 1) n k rows o s at (omega arith))

-- ---------- what counts in a row ----------

module _ (lots : Lots) (offers : List Offer) where
  abbrev built : Table
  built = program_of lots offers

  row_is : (r : ℕ) (s : Subject) (p : List Bool) → slice_get (subjects lots offers) r ≡ Some s
      → row_sum built p r ≡ pos (sum_by (weight lots s) (chosen offers p))
  row_is r s p at = sum_is (coefficient_at r) (weight lots s) lots (subjects lots offers) (worth_column lots) offers p
      (λ o. coefficient_is lots 0 r r (subjects lots offers) o s at (omega arith)) (in_no_row lots r (worth_of_all lots == 0))

  -- a bidder with a column has a row
  bidder_row : (b : ℕ) (xs : List Offer) → list_any (λ o. o.bidder == b) xs ≡ true → Contains (map (λ o. o.bidder) xs) b
  bidder_row b [] h = absurd (both_ways false refl h)
  bidder_row b (o ∷ xs) h = ⊎_elim
      (λ l. (0, omega arith, eqb-true o.bidder b l))
      (λ r. let w = bidder_row b xs r in (suc w.0, omega arith, w.2))
      (or_cases _ _ h)

  no_weight : (b : ℕ) (xs : List Offer) → list_any (λ o. o.bidder == b) xs ≡ false → AllByRecursion (λ o. weight lots (Bidder b) o ≡ 0) xs
  no_weight b [] h = tt
  no_weight b (o ∷ xs) h = let e = or_parts _ _ h in (cond-false (o.bidder == b) 1 0 e.0, no_weight b xs e.1)

  abbrev bs : List ℕ
  bs = dedup nat_eq (map (λ o. o.bidder) offers)

  met : (p : List Bool) → IsPoint built p → (s : Subject) → Contains (subjects lots offers) s → sum_by (weight lots s) (chosen offers p) ≤ most lots s
  met p is_point s there =
      let r = there.0 in
      let at : slice_get (subjects lots offers) r ≡ Some s = slice_get-get_or (subjects lots offers) r s there.1 ∙ ap (λ (x : Subject). Some x) there.2 in
      let m = row_at (λ q. meets q.1.kind (row_sum built p q.0) q.1.right_side ≡ true) 0 r r built.rows (row_of lots s) is_point.met
      (slice_get-map (row_of lots) (subjects lots offers) r ∙ ap (option_map (row_of lots)) at) (sym (zero-add r)) in
      leb-true (sum_by (weight lots s) (chosen offers p)) (most lots s)
      (ap (λ (z : ℤ). int_le z (pos (most lots s))) (sym (row_is r s p at)) ∙ sym (row_meets lots s (row_sum built p r)) ∙ m)

  one_each : (p : List Bool) → IsPoint built p → (b : ℕ) → sum_by (weight lots (Bidder b)) (chosen offers p) ≤ 1
  one_each p is_point b = ⊎_elim
      (λ some.
      let w = Contains-dedup_nat (map (λ o. o.bidder) offers) b (bidder_row b offers some) in
      let many = length-map bs Bidder in
      met p is_point (Bidder b) (Contains-append_left (map Bidder bs) (subjects lots []) (Bidder b)
      (w.0, omega arith, get_or-map Bidder bs w.0 b (Bidder b) w.1 ∙ ap Bidder w.2)))
      (λ none.
      let z = sum_agree (weight lots (Bidder b)) (λ o. 0) (chosen offers p)
      (chosen_all (λ o. weight lots (Bidder b) o ≡ 0) offers p (no_weight b offers none)) in
      let y = sum_zero (λ (o : Offer). 0) (chosen offers p) (λ o. refl) in
      omega arith)
      (cases_Bool (list_any (λ o. o.bidder == b) offers))

  within : (p : List Bool) → IsPoint built p → (category : ℕ) → category < length lots.supply
      → sum_by (weight lots (Category category)) (chosen offers p) ≤ slice_index lots.supply category
  within p is_point category below =
      met p is_point (Category category) (Contains-append_right (map Bidder bs) (subjects lots []) (Category category)
      (Contains-append_left (map Category (range_with_len 0 (length lots.supply))) (map Pool (range_with_len 0 (length lots.pools)))
      (Category category) (in_kind Category (length lots.supply) category below)))

  within_pool : (p : List Bool) → IsPoint built p → (pool : ℕ) → pool < length lots.pools
      → sum_by (weight lots (Pool pool)) (chosen offers p) ≤ (pool_at lots pool).cap
  within_pool p is_point pool below =
      met p is_point (Pool pool) (Contains-append_right (map Bidder bs) (subjects lots []) (Pool pool)
      (Contains-append_right (map Category (range_with_len 0 (length lots.supply))) (map Pool (range_with_len 0 (length lots.pools)))
      (Pool pool) (in_kind Pool (length lots.pools) pool below)))

  weighs_few : (p : List Bool) → IsPoint built p → (s : Subject) → IsThere lots s → sum_by (weight lots s) (chosen offers p) ≤ most lots s
  weighs_few p is_point (Bidder b) there = one_each p is_point b
  weighs_few p is_point (Category category) there = within p is_point category there
  weighs_few p is_point (Pool pool) there = within_pool p is_point pool there

  point_where : (p : List Bool) → AreAllowed built.columns p
      → ((s : Subject) → IsThere lots s → sum_by (weight lots s) (chosen offers p) ≤ most lots s) → IsPoint built p
  point_where p allowed few = record {
    allowed = allowed;
    met = each_row (λ q. meets q.1.kind (row_sum built p q.0) q.1.right_side ≡ true) 0 built.rows (λ m r row at place.
        let w = from_map (row_of lots) (subjects lots offers) r row at in
        let fit = few w.0 (at_place (IsThere lots) (subjects lots offers) r w.0 (all_there lots offers) w.1) in
        let here : m ≡ r = omega arith in
        let n : meets AtMost (row_sum built p m) (pos (most lots w.0)) ≡ true =
        ap (λ (i : ℕ). int_le (row_sum built p i) (pos (most lots w.0))) here
        ∙ ap (λ (z : ℤ). int_le z (pos (most lots w.0))) (row_is r w.0 p w.1)
        ∙ le-leb (sum_by (weight lots w.0) (chosen offers p)) (most lots w.0) fit in
        subst (λ (x : TableRow). meets x.kind (row_sum built p m) x.right_side ≡ true) (sym w.2) (row_meets lots w.0 (row_sum built p m) ∙ n));
  }

-- a point of the program of a list of offers is one of another's, if the same offers are at 1
pub point_of_others : (lots : Lots) (offers others : List Offer) (p q : List Bool) → IsPoint (program_of lots offers) p
    → AreAllowed (program_of lots others).columns q → chosen others q ≡ chosen offers p → IsPoint (program_of lots others) q
point_of_others lots offers others p q is_point allowed same =
    point_where lots others q allowed (λ s there. rw same (weighs_few lots offers p is_point s there))

-- ---------- from a point to an allocation ----------

-- a measure of the choices is that of the offers
pub measured : (h : Choice → ℕ) (g : Offer → ℕ) (xs : List Offer) → AllByRecursion (λ o. h (choice_of o) ≡ g o) xs → sum_by h (map choice_of xs) ≡ sum_by g xs
measured h g [] a = refl
measured h g (o ∷ xs) a =
    let s = sum_by-cons h (choice_of o) (map choice_of xs) in let t = sum_by-cons g o xs in let e = a.0 in let r = measured h g xs a.1 in
    let left : sum_by h (choice_of o ∷ map choice_of xs) ≡ g o + sum_by g xs = omega arith in
    left ∙ sym t

-- a total is minus the objective
same_total : (total worth amounts all amounts' worth' : ℕ) (objective : ℤ) → total + worth ≡ amounts + all → amounts ≡ amounts'
    → worth ≡ worth' → objective +ℤ pos amounts' ≡ pos worth' +ℤ neg_ℤ (pos all) → pos total ≡ neg_ℤ objective
same_total total worth amounts all amounts' worth' objective t a w o = omega (arith, ints)

module _ (lots : Lots) (book : Book) (group : ℕ → Bool) where
  abbrev kept : List Offer
  kept = kept_of lots book group

  abbrev program : Table
  program = program_of lots kept

  abbrev IsOffered : Offer → Type 0
  IsOffered o = (bid_of book (choice_of o) ≡ Some o.bid) × (is_kept_offer lots book group o ≡ true)

  offered : AllByRecursion IsOffered kept
  offered = all_filter (λ o. bid_of book (choice_of o) ≡ Some o.bid) (is_kept_offer lots book group) (offers_from 1 book) (stands book)

  -- what the chosen offers, and their choices, add up to
  sums_are : (f : Bid → ℕ) (p : List Bool) → sum_by (λ c. option_map_or f (bid_of book c) 0) (map choice_of (chosen kept p))
      ≡ sum_by (λ o. f o.bid) (chosen kept p)
  sums_are f p = measured (λ c. option_map_or f (bid_of book c) 0) (λ o. f o.bid) (chosen kept p)
      (all_agree IsOffered (λ o. option_map_or f (bid_of book (choice_of o)) 0 ≡ f o.bid) (chosen kept p)
      (λ o h. ap (λ x. option_map_or f x 0) h.0) (chosen_all IsOffered kept p offered))

  fit_back : IsSized lots book → (p : List Bool) → IsPoint program p → fits lots (loads lots book (map choice_of (chosen kept p))) ≡ true
  fit_back sized p is_point = feasible_from lots book (map choice_of (chosen kept p)) sized
      (λ category below.
      let e = sums_are (λ x. slice_index x.package category) p in
      let l = within lots kept p is_point category below in
      omega arith)
      (λ pool below.
      let e = sums_are (λ x. weighed (pool_at lots pool).weights x.package) p in
      let l = within_pool lots kept p is_point pool below in
      omega arith)

  maps_back : IsSized lots book → (p : List Bool) → IsPoint program p
      → IsFeasible lots book group (map choice_of (chosen kept p))
      × (pos (total lots book (map choice_of (chosen kept p))) ≡ neg_ℤ (objective program p))
  maps_back sized p is_point =
      let here : AllByRecursion IsOffered (chosen kept p) = chosen_all IsOffered kept p offered in
      let fit = fit_back sized p is_point in (
        record {
          one_bid_each = λ b.
              let e = measured (λ (c : Choice). cond (c.bidder == b) 1 0) (weight lots (Bidder b)) (chosen kept p)
              (all_agree IsOffered (λ o. cond (o.bidder == b) 1 0 ≡ cond (o.bidder == b) 1 0) (chosen kept p) (λ o h. refl) here) in
              let l = one_each lots kept p is_point b in
              omega arith;
          eligible = All-from_recursion (λ c. is_eligible book group c ≡ true) (map choice_of (chosen kept p))
              (each_map (λ c. is_eligible book group c ≡ true) choice_of (chosen kept p)
              (all_agree IsOffered (λ o. is_eligible book group (choice_of o) ≡ true) (chosen kept p)
              (λ o a. and_from (not (group o.bidder)) (is_some (bid_of book (choice_of o)))
              (and_parts (not (group o.bidder)) (is_kept lots (form_of book o.bidder) o.bid) a.1).0 (ap (λ c. is_some c) a.0)) here));
          fit = fit;
        },
        same_total (total lots book (map choice_of (chosen kept p))) (worths lots book (map choice_of (chosen kept p)))
            (sum_by (amount_of book) (map choice_of (chosen kept p))) (worth_of_all lots)
            (sum_by (λ o. o.bid.amount) (chosen kept p)) (sum_by (worth_offered lots) (chosen kept p)) (objective program p)
            (total_is lots book (map choice_of (chosen kept p)) sized fit) (sums_are (λ x. x.amount) p)
            (sums_are (λ x. weighed lots.values x.package) p) (cost_is lots (subjects lots kept) kept p is_point.allowed),
      )

-- ---------- from an allocation to a point ----------

abbrev pub same_choice : Choice → Choice → Bool
same_choice c d = (c.bidder == d.bidder) && (c.bid == d.bid)

abbrev is_member : List Choice → Offer → Bool
is_member a o = list_any (λ c. same_choice c (choice_of o)) a

marked : (q : Offer → Bool) (g : Offer → ℕ) (o : Offer) (xs : List Offer) (vs : List Bool) (b : Bool)
    → sum_by g (chosen xs (map q xs ++ vs)) ≡ sum_by (λ o. cond (q o) (g o) 0) xs
    → sum_by g (chosen (o ∷ xs) (b ∷ map q xs ++ vs)) ≡ cond b (g o) 0 + sum_by (λ o. cond (q o) (g o) 0) xs
marked q g o xs vs true h = sum_by-cons g o (chosen xs (map q xs ++ vs)) ∙ ap (λ n. g o + n) h
marked q g o xs vs false h = h ∙ sym (zero-add (sum_by (λ o. cond (q o) (g o) 0) xs))

chosen_marks : (q : Offer → Bool) (g : Offer → ℕ) (xs : List Offer) (vs : List Bool)
    → sum_by g (chosen xs (map q xs ++ vs)) ≡ sum_by (λ o. cond (q o) (g o) 0) xs
chosen_marks q g [] vs = refl
chosen_marks q g (o ∷ xs) vs = marked q g o xs vs (q o) (chosen_marks q g xs vs) ∙ sym (sum_by-cons (λ o. cond (q o) (g o) 0) o xs)

-- the value of the column of what all lots are worth, if there is one
abbrev last_values : Lots → List Bool
last_values lots = cond (worth_of_all lots == 0) [] (true ∷ [])

last_allowed : (lots : Lots) (b : Bool) → AreAllowed (cond b [] (record
    { name = codes "K"; bounds = One; cost = neg_ℤ (pos (worth_of_all lots)); entries = [] } ∷ [])) (cond b [] (true ∷ []))
last_allowed lots true = tt
last_allowed lots false = (refl, tt)

-- nobody in the list is this bidder
not_there : (a : List Choice) (b : ℕ) → count_by (λ c. c.bidder == b) a ≡ 0 → (o : Offer) → o.bidder ≡ b → is_member a o ≡ false
not_there [] b h o e = refl
not_there (c ∷ a) b h o e =
    let n : ℕ = cond (c.bidder == b) 1 0 in
    let s : count_by (λ c. c.bidder == b) (c ∷ a) ≡ n + count_by (λ c. c.bidder == b) a = sum_by-cons (λ (c : Choice). cond (c.bidder == b) 1 0) c a in
    let here : n ≡ 0 = omega arith in
    let later : count_by (λ c. c.bidder == b) a ≡ 0 = omega arith in
    let differs : (c.bidder == o.bidder) ≡ false = false_from_ne_true (c.bidder == o.bidder) (λ t.
    let same : c.bidder ≡ b = eqb-true c.bidder o.bidder t ∙ e in
    let one : n ≡ 1 = cond-true (c.bidder == b) 1 0 (eq-eqb c.bidder b same) in
    omega arith) in
    ap₂ (λ (x y : Bool). x || y) (and_left (c.bidder == o.bidder) (c.bid == o.number) differs) (not_there a b later o e)

inner_zero : (b : Bool) (n : ℕ) → n ≡ 0 → cond b n 0 ≡ 0
inner_zero true n h = h
inner_zero false n h = refl

apart : (x y : Bool) (n : ℕ) → (x ≡ true → y ≡ false) → cond (x || y) n 0 ≡ cond x n 0 + cond y n 0
apart true y n h = sym (ap (λ (b : Bool). n + cond b n 0) (h refl) ∙ add-zero n)
apart false y n h = sym (zero-add (cond y n 0))

module _ (lots : Lots) (book : Book) (group : ℕ → Bool) (f : Choice → Bid → ℕ) where
  -- a measure of offers, and of choices
  abbrev of_offer : Offer → ℕ
  of_offer o = f (choice_of o) o.bid

  abbrev of_choice : Choice → ℕ
  of_choice c = option_map_or (λ x. f c x) (bid_of book c) 0

  -- a kept choice is one of the kept offers, once
  once : (c : Choice) → is_kept_choice lots book group c ≡ true
      → sum_by (λ o. cond (same_choice c (choice_of o)) (of_offer o) 0) (kept_of lots book group) ≡ of_choice c
  once c k =
      let e = and_parts (not (group c.bidder)) (option_map_or (λ x. is_kept lots (form_of book c.bidder) x) (bid_of book c) false) k in
      let v = is_there (λ (x : Bid). is_kept lots (form_of book c.bidder) x) (bid_of book c) e.1 in
      let here : Offer = record { bidder = c.bidder; number = c.bid; bid = v.0 } in
      let counted : Offer → ℕ = λ o. cond (is_kept_offer lots book group o) (cond (same_choice c (choice_of o)) (of_offer o) 0) 0 in
      let all = sum_filter (λ o. cond (same_choice c (choice_of o)) (of_offer o) 0) (is_kept_offer lots book group) (offers_from 1 book) in
      let one = at_choice counted book c.bidder c.bid v.0 v.1 (λ o differ. inner_zero (is_kept_offer lots book group o)
      (cond (same_choice c (choice_of o)) (of_offer o) 0)
      (cond-false (same_choice c (choice_of o)) (of_offer o) 0 (false_from_ne_true (same_choice c (choice_of o)) (λ t.
      let w = and_parts (c.bidder == o.bidder) (c.bid == o.number) t in
      differ (sym (eqb-true c.bidder o.bidder w.0)) (sym (eqb-true c.bid o.number w.1)))))) in
      let is_here : counted here ≡ f c v.0 =
      cond-true (is_kept_offer lots book group here) (cond (same_choice c (choice_of here)) (of_offer here) 0) 0
      (and_from (not (group c.bidder)) (is_kept lots (form_of book c.bidder) v.0) e.0 v.2)
      ∙ cond-true (same_choice c (choice_of here)) (of_offer here) 0
      (and_from (c.bidder == c.bidder) (c.bid == c.bid) (eq-eqb c.bidder c.bidder refl) (eq-eqb c.bid c.bid refl)) in
      all ∙ one ∙ is_here ∙ sym (ap (λ x. option_map_or (λ (x : Bid). f c x) x 0) v.1)

  members : (a : List Choice) → AllByRecursion (λ c. is_kept_choice lots book group c ≡ true) a → ((b : ℕ) → count_by (λ c. c.bidder == b) a ≤ 1)
      → sum_by (λ o. cond (is_member a o) (of_offer o) 0) (kept_of lots book group) ≡ sum_by of_choice a
  members [] k one = sum_zero (λ o. 0) (kept_of lots book group) (λ o. refl)
  members (c ∷ a) k one =
      let s = sum_by-cons of_choice c a in
      let first = once c k.0 in
      let rest = members a k.1 (λ b. let t = sum_by-cons (λ (d : Choice). cond (d.bidder == b) 1 0) c a in let l = one b in omega arith) in
      let both = sum_plus (λ o. cond (is_member (c ∷ a) o) (of_offer o) 0) (λ o. cond (same_choice c (choice_of o)) (of_offer o) 0)
      (λ o. cond (is_member a o) (of_offer o) 0) (kept_of lots book group)
      (λ o. apart (same_choice c (choice_of o)) (is_member a o) (of_offer o) (λ t.
      let w = and_parts (c.bidder == o.bidder) (c.bid == o.number) t in
      let e = eqb-true c.bidder o.bidder w.0 in
      let n : ℕ = cond (c.bidder == c.bidder) 1 0 in
      let t : count_by (λ d. d.bidder == c.bidder) (c ∷ a) ≡ n + count_by (λ d. d.bidder == c.bidder) a =
      sum_by-cons (λ (d : Choice). cond (d.bidder == c.bidder) 1 0) c a in
      let l = one c.bidder in
      let u : n ≡ 1 = cond-true (c.bidder == c.bidder) 1 0 (eq-eqb c.bidder c.bidder refl) in
      let none : count_by (λ d. d.bidder == c.bidder) a ≡ 0 = omega arith in
      not_there a c.bidder none o (sym e))) in
      let x : ℕ = sum_by (λ o. cond (same_choice c (choice_of o)) (of_offer o) 0) (kept_of lots book group) in
      let y : ℕ = sum_by (λ o. cond (is_member a o) (of_offer o) 0) (kept_of lots book group) in
      let both' : sum_by (λ o. cond (is_member (c ∷ a) o) (of_offer o) 0) (kept_of lots book group) ≡ x + y = both in
      let first' : x ≡ of_choice c = first in
      let rest' : y ≡ sum_by of_choice a = rest in
      both' ∙ ap₂ (λ (m n : ℕ). m + n) first' rest' ∙ sym s

module _ (lots : Lots) (book : Book) (group : ℕ → Bool) (sized : IsSized lots book) where
  -- the values at which the columns of these choices are 1
  abbrev pub values_of : List Choice → List Bool
  values_of a = map (is_member a) (kept_of lots book group) ++ last_values lots

  taken : (f : Choice → Bid → ℕ) (a : List Choice) → AllByRecursion (λ c. is_kept_choice lots book group c ≡ true) a
      → ((b : ℕ) → count_by (λ c. c.bidder == b) a ≤ 1)
      → sum_by (of_offer lots book group f) (chosen (kept_of lots book group) (values_of a)) ≡ sum_by (of_choice lots book group f) a
  taken f a k one = chosen_marks (is_member a) (of_offer lots book group f) (kept_of lots book group) (last_values lots) ∙ members lots book group f a k one

  -- a measure that only looks at the choice
  counted : (g : Choice → ℕ) (c : Choice) → is_kept_choice lots book group c ≡ true → of_choice lots book group (λ d x. g d) c ≡ g c
  counted g c k =
      let e = and_parts (not (group c.bidder)) (option_map_or (λ x. is_kept lots (form_of book c.bidder) x) (bid_of book c) false) k in
      let v = is_there (λ (x : Bid). is_kept lots (form_of book c.bidder) x) (bid_of book c) e.1 in
      ap (λ o. option_map_or (λ (x : Bid). g c) o 0) v.1

  -- how often a kept allocation has it, from the offers
  pub counted_members : (g : Choice → ℕ) (a : List Choice) → AllByRecursion (λ c. is_kept_choice lots book group c ≡ true) a
      → ((b : ℕ) → count_by (λ c. c.bidder == b) a ≤ 1)
      → sum_by (λ o. g (choice_of o)) (chosen (kept_of lots book group) (values_of a)) ≡ sum_by g a
  counted_members g a k one =
      taken (λ d x. g d) a k one ∙ sum_agree (of_choice lots book group (λ d x. g d)) g a
      (all_agree (λ c. is_kept_choice lots book group c ≡ true) (λ c. of_choice lots book group (λ d x. g d) c ≡ g c) a (counted g) k)

  values_fit : (rows : List Subject) (xs : List Offer) (p : Offer → Bool)
      → AreAllowed (map (column_of lots rows) xs ++ worth_column lots) (map p xs ++ last_values lots)
  values_fit rows [] p = last_allowed lots (worth_of_all lots == 0)
  values_fit rows (o ∷ xs) p = (refl, values_fit rows xs p)

  weighs : (s : Subject) (a : List Choice) → AllByRecursion (λ c. is_kept_choice lots book group c ≡ true) a → IsFeasible lots book group a → IsThere lots s
      → sum_by (weight lots s) (chosen (kept_of lots book group) (values_of a)) ≤ most lots s
  weighs (Bidder b) a k f tt =
      let e = counted_members (λ c. cond (c.bidder == b) 1 0) a k f.one_bid_each in
      let l = f.one_bid_each b in
      omega arith
  weighs (Category n) a k f below =
      let e = taken (λ d x. slice_index x.package n) a k f.one_bid_each in
      let l = feasible_at lots book group a f n below in
      omega arith
  weighs (Pool n) a k f below =
      let e = taken (λ d x. weighed (pool_at lots n).weights x.package) a k f.one_bid_each in
      let l = feasible_pool lots book group a sized f n below in
      omega arith

  -- a feasible allocation of kept bids is a point of the same total
  pub exact_point : (a : List Choice) → AllByRecursion (λ c. is_kept_choice lots book group c ≡ true) a → IsFeasible lots book group a
      → IsPoint (program_of lots (kept_of lots book group)) (values_of a)
      × (pos (total lots book a) ≡ neg_ℤ (objective (program_of lots (kept_of lots book group)) (values_of a)))
  exact_point a k f =
      let all = kept_of lots book group in
      let p : List Bool = values_of a in
      let allowed : AreAllowed (program_of lots all).columns p = values_fit (subjects lots all) all (is_member a) in
      let amounts = sym (taken (λ d x. x.amount) a k f.one_bid_each) in
      let worth_is = sym (taken (λ d x. weighed lots.values x.package) a k f.one_bid_each) in (
        point_where lots all p allowed (λ s there. weighs s a k f there),
        same_total (total lots book a) (worths lots book a) (sum_by (amount_of book) a) (worth_of_all lots)
            (sum_by (λ o. o.bid.amount) (chosen all p)) (sum_by (worth_offered lots) (chosen all p)) (objective (program_of lots all) p)
            (total_is lots book a sized f.fit) amounts worth_is (cost_is lots (subjects lots all) all p allowed),
      )

  matched : (a : List Choice) → IsFeasible lots book group a → Matched lots book (program_of lots (kept_of lots book group)) a
  matched a f =
      let best = kept_are_enough lots book group a sized f in
      let exact = exact_point best.choices (recursion_from_All (λ c. is_kept_choice lots book group c ≡ true) best.choices best.kept) best.feasible in
      let dearer = best.no_cheaper in record {
        values = values_of best.choices;
        is_point = exact.0;
        no_less = (let le : pos (total lots book a) ≤ℤ pos (total lots book best.choices) = omega (arith, ints) in
            subst (λ (z : ℤ). pos (total lots book a) ≤ℤ z) exact.1 le);
      }

pub presolved_is_faithful : PresolvedIsFaithful
presolved_is_faithful lots book group h = record {
  maps_back = λ p is_point.
      let e = back_is lots (subjects lots (kept_of lots book group)) (kept_of lots book group) p
      (numbered lots (kept_of lots book group) (kept_are_offers lots book group h)) in
      let m = maps_back lots book group (sized lots book h) p is_point in
      record {
        feasible = subst (λ (a : List Choice). IsFeasible lots book group a) (sym e) m.0;
        same_total = subst (λ (a : List Choice). pos (total lots book a) ≡ neg_ℤ (objective (program_of lots (kept_of lots book group)) p)) (sym e) m.1;
      };
  is_matched = matched lots book group (sized lots book h);
}

pub least_is_greatest : LeastIsGreatest
least_is_greatest lots book group program faithful values is_point least =
    let h = faithful.maps_back values is_point in record {
      feasible = h.feasible;
      greatest = λ other f.
          let m = faithful.is_matched other f in
          let l = least m.values m.is_point in
          omega (arith, ints);
    }
