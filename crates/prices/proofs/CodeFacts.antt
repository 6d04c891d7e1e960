-- What the functions over books and programs rest on.
use Rattle.std.proofs.Common.{◌≡◌, ℕ, zero, suc, ◌+◌, ◌*◌, ◌<◌, ◌≤◌, Bool, true, false, not, ◌==◌, ◌&&◌, cond, List, [], ◌∷◌, ◌++◌, Option}
use Rattle.std.proofs.Common.{Some, None, ⊎_elim, length, map, drop, slice_get, slice_index_or, refl, sym, ap, ◌∙◌, subst}
use Rattle.std.proofs.Common.{arith, append_assoc, drop-cons, eq-eqb, ℤ, pos, negsuc, neg_ℤ, ◌-ℤ◌, ◌≤ℤ◌, w64}
use Rattle.std.specs.Result.{IsErrAnd}
use Rattle.std.specs.Prelude.{IfErr, Result, Ok, Err, codes, count_by, filter, int_le, sum_by}
use Rattle.std.specs.List.{AllByRecursion, list_any}
use Rattle.std.specs.Option.{option_map, option_map_or}
use Rattle.std.proofs.lemmas.Bool.{and_parts, cases_Bool, cond-true, cond-false, cond_both}
use Rattle.std.proofs.lemmas.Int.{ints, to_z-of_z}
use mir.Val.{SFits, to_z, of_z}
use Rattle.std.proofs.lemmas.List.Sums.{sum_by-cons}
use Rattle.std.proofs.lemmas.List.Elements.{recursion_from_All}
use Rattle.auction_terms.specs.declared.limits.TheConstants.{GREATEST_AMOUNT}
use Rattle.auction_terms.specs.declared.bids.Bid.{Bid}
use Rattle.auction_terms.specs.declared.bids.Choice.{Choice}
use Rattle.auction_terms.specs.Packages.{Lots, fits, left, worth, worth_of_all}
use Rattle.auction_terms.specs.Domination.{dominates, is_kept, net}
use Rattle.auction_terms.specs.Allocations.{Book, amount_of, bid_at, bid_of, form_of, loads, total}
use Rattle.auction_terms.specs.Keeping.{Offer, kept_of, offers_from}
use Rattle.auction_terms.specs.inside.Keeping.{is_kept_offer}
use Rattle.auction_terms.specs.Limits.{AreOffers, IsBid, IsBook}
use Rattle.auction_terms.proofs.LimitFacts.{kept_are_offers}
use Rattle.auction_terms.proofs.OfferFacts.{all_filter, sum_filter}
use Rattle.auction_terms.proofs.WeighedFacts.{le_from}
use Rattle.program_rows.specs.declared.column.Bounds.TheVariants.{One}
use Rattle.program_rows.specs.declared.subject.Subject.{Subject}
use Rattle.program_rows.specs.Costed.{costed}
use Rattle.program_rows.specs.Program.{Table, TableColumn}
use Rattle.program_rows.specs.Rows.{column_of, program_of, subjects, worth_column}
use Rattle.program_rows.specs.Spelling.{column_bid}
use Rattle.program_rows.proofs.EachFacts.{each, item_at}
use Rattle.prices.specs.Blocking.{ArePrices, gain, revenue}
use Rattle.prices.specs.Raised.{raised_column, raised_cost}
use Rattle.prices.proofs.BlockingFacts.{amounts_are}
use Rattle.prices.proofs.WeightFacts.{spread}

some_same : (x y : ℤ) → Some x ≡ Some y → x ≡ y
some_same x y e = cc

-- ---------- amounts ----------

form_bid : (lots : Lots) (form : List Bid) (j : ℕ) (x : Bid) → AllByRecursion (IsBid lots) form → slice_get form j ≡ Some x → IsBid lots x
form_bid lots [] j x h e = cc
form_bid lots (y ∷ form) zero x h e = let same : y ≡ x = cc in subst (IsBid lots) same h.0
form_bid lots (y ∷ form) (suc j) x h e = form_bid lots form j x h.1 e

book_form : (lots : Lots) (book : Book) (b : ℕ) → AllByRecursion (λ form. AllByRecursion (IsBid lots) form) book
    → AllByRecursion (IsBid lots) (slice_index_or book b [])
book_form lots [] b h = tt
book_form lots (form ∷ book) zero h = h.0
book_form lots (form ∷ book) (suc b) h = book_form lots book b h.1

bid_within : (lots : Lots) (book : Book) (b j : ℕ) (x : Bid) → IsBook lots book → bid_at (form_of book b) j ≡ Some x → IsBid lots x
bid_within lots book zero zero x h e = cc
bid_within lots book zero (suc j) x h e = cc
bid_within lots book (suc b) zero x h e = cc
bid_within lots book (suc b) (suc j) x h e = form_bid lots (form_of book (suc b)) j x (book_form lots book b h.bids) e

amount_in : (o : Option Bid) → ((x : Bid) → o ≡ Some x → x.amount ≤ GREATEST_AMOUNT) → option_map_or (λ (x : Bid). x.amount) o 0 ≤ GREATEST_AMOUNT
amount_in None h = omega arith
amount_in (Some x) h = h x refl

pub amount_small : (lots : Lots) (book : Book) (c : Choice) → IsBook lots book → amount_of book c ≤ GREATEST_AMOUNT
amount_small lots book c h = amount_in (bid_of book c) (λ x e. (bid_within lots book c.bidder c.bid x h e).amount)

-- ---------- gains ----------

-- the total is the revenue and the gains
pub total_is : (lots : Lots) (book : Book) (first : List Choice) (parts : ℕ) (price : ℕ → ℕ) → ArePrices book first parts price
    → parts * total lots book first ≡ revenue lots book first parts price + sum_by (gain book parts price) first
total_is lots book first parts price prices =
    let e = amounts_are parts book price first (recursion_from_All (λ c. price c.bidder ≤ parts * amount_of book c) first prices) in
    let unsold : ℕ = worth lots (left lots.supply (loads lots book first)) in
    let whole : parts * total lots book first ≡ parts * sum_by (amount_of book) first + parts * unsold = spread parts (sum_by (amount_of book) first) unsold in
    omega arith

nothing : (t : Bool) (n : ℕ) → ◌≡◌ {A = ℕ} (cond t 1 0) 0 → cond t n 0 ≡ 0
nothing true n h = absurd (omega arith)
nothing false n h = refl

module _ (f : Choice → ℕ) (b : ℕ) where
  abbrev of_bidder : List Choice → ℕ
  of_bidder xs = sum_by f (filter (λ c. c.bidder == b) xs)

  none_left : (xs : List Choice) → count_by (λ c. c.bidder == b) xs ≡ 0 → sum_by (λ c. cond (c.bidder == b) (f c) 0) xs ≡ 0
  none_left [] h = refl
  none_left (c ∷ xs) h =
      let s : count_by (λ c. c.bidder == b) (c ∷ xs) ≡ cond (c.bidder == b) 1 0 + count_by (λ c. c.bidder == b) xs =
      sum_by-cons (λ (x : Choice). cond (x.bidder == b) 1 0) c xs in
      let t : sum_by (λ c. cond (c.bidder == b) (f c) 0) (c ∷ xs)
      ≡ cond (c.bidder == b) (f c) 0 + sum_by (λ c. cond (c.bidder == b) (f c) 0) xs = sum_by-cons
      (λ (x : Choice). cond (x.bidder == b) (f x) 0) c xs in
      let later = none_left xs (omega arith) in
      let n : ℕ = cond (c.bidder == b) 1 0 in
      let zero_here : n ≡ 0 = omega arith in
      let here : cond (c.bidder == b) (f c) 0 ≡ 0 = nothing (c.bidder == b) (f c) zero_here in
      omega arith

  -- the first one is the only one
  pub found_here : (c : Choice) (xs : List Choice) → (c.bidder == b) ≡ true → count_by (λ c. c.bidder == b) (c ∷ xs) ≤ 1 → of_bidder (c ∷ xs) ≡ f c
  found_here c xs e h =
      let s : count_by (λ c. c.bidder == b) (c ∷ xs) ≡ cond (c.bidder == b) 1 0 + count_by (λ c. c.bidder == b) xs =
      sum_by-cons (λ (x : Choice). cond (x.bidder == b) 1 0) c xs in
      let n : ℕ = cond (c.bidder == b) 1 0 in
      let one : n ≡ 1 = cond-true (c.bidder == b) 1 0 e in
      let t : sum_by (λ c. cond (c.bidder == b) (f c) 0) (c ∷ xs)
      ≡ cond (c.bidder == b) (f c) 0 + sum_by (λ c. cond (c.bidder == b) (f c) 0) xs = sum_by-cons
      (λ (x : Choice). cond (x.bidder == b) (f x) 0) c xs in
      let here : cond (c.bidder == b) (f c) 0 ≡ f c = cond-true (c.bidder == b) (f c) 0 e in
      let later = none_left xs (omega arith) in
      let whole = sum_filter f (λ c. c.bidder == b) (c ∷ xs) in
      omega arith

  -- or it comes later
  pub found_later : (c : Choice) (xs : List Choice) → (c.bidder == b) ≡ false → of_bidder (c ∷ xs) ≡ of_bidder xs
  found_later c xs e =
      let t : sum_by (λ c. cond (c.bidder == b) (f c) 0) (c ∷ xs)
      ≡ cond (c.bidder == b) (f c) 0 + sum_by (λ c. cond (c.bidder == b) (f c) 0) xs = sum_by-cons
      (λ (x : Choice). cond (x.bidder == b) (f x) 0) c xs in
      let here : cond (c.bidder == b) (f c) 0 ≡ 0 = cond-false (c.bidder == b) (f c) 0 e in
      let whole = sum_filter f (λ c. c.bidder == b) (c ∷ xs) in
      let rest = sum_filter f (λ c. c.bidder == b) xs in
      omega arith

  pub fewer_later : (c : Choice) (xs : List Choice) → count_by (λ c. c.bidder == b) (c ∷ xs) ≤ 1 → count_by (λ c. c.bidder == b) xs ≤ 1
  fewer_later c xs h =
      let s : count_by (λ c. c.bidder == b) (c ∷ xs) ≡ cond (c.bidder == b) 1 0 + count_by (λ c. c.bidder == b) xs =
      sum_by-cons (λ (x : Choice). cond (x.bidder == b) 1 0) c xs in
      omega arith

counted : (b : ℕ) (xs : List Choice) (i : ℕ) (d : Choice) → i < length xs → (slice_index_or xs i d).bidder ≡ b
    → 1 ≤ count_by (λ c. c.bidder == b) xs
counted b [] i d l e = absurd (omega arith)
counted b (c ∷ xs) zero d l e =
    let s : count_by (λ c. c.bidder == b) (c ∷ xs) ≡ cond (c.bidder == b) 1 0 + count_by (λ c. c.bidder == b) xs =
    sum_by-cons (λ (x : Choice). cond (x.bidder == b) 1 0) c xs in
    let n : ℕ = cond (c.bidder == b) 1 0 in
    let one : n ≡ 1 = cond-true (c.bidder == b) 1 0 (eq-eqb c.bidder b e) in
    omega arith
counted b (c ∷ xs) (suc i) d l e =
    let s : count_by (λ c. c.bidder == b) (c ∷ xs) ≡ cond (c.bidder == b) 1 0 + count_by (λ c. c.bidder == b) xs =
    sum_by-cons (λ (x : Choice). cond (x.bidder == b) 1 0) c xs in
    let later = counted b xs i d (omega arith) e in
    omega arith

-- one that is first and another that is at a place later are two
pub found_twice : (b : ℕ) (c : Choice) (xs : List Choice) (i : ℕ) (d : Choice) → i < length xs → (slice_index_or xs i d).bidder ≡ b
    → (c.bidder == b) ≡ true → count_by (λ c. c.bidder == b) (c ∷ xs) ≤ 1 → ⊥
found_twice b c xs i d l e t h =
    let s : count_by (λ c. c.bidder == b) (c ∷ xs) ≡ cond (c.bidder == b) 1 0 + count_by (λ c. c.bidder == b) xs =
    sum_by-cons (λ (x : Choice). cond (x.bidder == b) 1 0) c xs in
    let n : ℕ = cond (c.bidder == b) 1 0 in
    let one : n ≡ 1 = cond-true (c.bidder == b) 1 0 t in
    let some = counted b xs i d l e in
    omega arith

-- the one at a place, after which there is none
pub found_at : (f : Choice → ℕ) (b : ℕ) (xs : List Choice) (i : ℕ) (d : Choice) → i < length xs → (slice_index_or xs i d).bidder ≡ b
    → count_by (λ c. c.bidder == b) (drop i xs) ≤ 1 → of_bidder f b (drop i xs) ≡ f (slice_index_or xs i d)
found_at f b xs i d l e h =
    let next : drop i xs ≡ slice_index_or xs i d ∷ drop (suc i) xs = drop-cons xs i d l in
    ap (of_bidder f b) next ∙ found_here f b (slice_index_or xs i d) (drop (suc i) xs) (eq-eqb (slice_index_or xs i d).bidder b e)
    (subst (λ (ys : List Choice). count_by (λ c. c.bidder == b) ys ≤ 1) next h)

-- the one at a place, of whom there is no other
pub found_in : (f : Choice → ℕ) (b : ℕ) (xs : List Choice) (i : ℕ) (d : Choice) → i < length xs → (slice_index_or xs i d).bidder ≡ b
    → count_by (λ c. c.bidder == b) xs ≤ 1 → of_bidder f b xs ≡ f (slice_index_or xs i d)
found_in f b [] i d l e h = absurd (omega arith)
found_in f b (c ∷ xs) zero d l e h = found_here f b c xs (eq-eqb c.bidder b e) h
found_in f b (c ∷ xs) (suc i) d l e h =
    let few = fewer_later f b c xs h in
    let later = found_in f b xs i d (omega arith) e few in
    ⊎_elim
    (λ t. absurd (found_twice b c xs i d (omega arith) e t h))
    (λ t. found_later f b c xs t ∙ later)
    (cases_Bool (c.bidder == b))

-- ---------- errors ----------

-- what holds of an error holds of each that a result can be
pub if-err-of : {V E : Type 0} (P : E → Type 0) (r : Result V E) (e : E) → IsErrAnd r (λ y. y ≡ e) → P e → IfErr r P
if-err-of P (Ok x) e is holds = tt
if-err-of P (Err y) e is holds = subst P (sym is) holds

-- ---------- costs ----------

-- the cost of one more column
pub cost_pushed : (f : TableColumn → ℤ) (cs : List TableColumn) (i : ℕ) (costs new : List ℤ) (z : ℤ)
    → option_map f (slice_get cs i) ≡ Some z → i < length cs → new ≡ costs ++ z ∷ []
    → costs ++ map f (drop i cs) ≡ map f cs → new ++ map f (drop (i + 1) cs) ≡ map f cs
cost_pushed f cs i costs new z parsed l e h =
    let (x, at, next) = item_at cs i l in
    let same : f x ≡ z = some_same (f x) z (sym (ap (option_map f) at) ∙ parsed) in
    ap (λ (zs : List ℤ). zs ++ map f (drop (i + 1) cs)) e
    ∙ append_assoc costs (z ∷ []) (map f (drop (i + 1) cs))
    ∙ ap (λ (y : ℤ). costs ++ y ∷ map f (drop (i + 1) cs)) (sym same)
    ∙ ap (λ (xs : List TableColumn). costs ++ map f xs) (sym next)
    ∙ h

-- other costs, made of the columns themselves, are those of the raised program
pub costed_is_raised : (parts : ℕ) (raise : ℕ → ℕ) (cs : List TableColumn)
    → costed cs (map (raised_cost parts raise) cs) ≡ map (raised_column parts raise) cs
costed_is_raised parts raise [] = refl
costed_is_raised parts raise (c ∷ cs) = ap (λ (xs : List TableColumn). raised_column parts raise c ∷ xs) (costed_is_raised parts raise cs)

-- minus what a kept bid brings more than its package is worth where it is left
abbrev pub IsCostOfBid : ℤ → Type 0
IsCostOfBid cost = (neg_ℤ (pos GREATEST_AMOUNT) ≤ℤ cost) × (cost ≤ℤ pos 0)

kept_cost : (amount worth_left : ℕ) → amount ≤ GREATEST_AMOUNT → int_le (pos 0) (pos amount -ℤ pos worth_left) ≡ true
    → IsCostOfBid (neg_ℤ (pos amount -ℤ pos worth_left))
kept_cost amount worth_left most h =
    let low : pos 0 ≤ℤ (pos amount -ℤ pos worth_left) = le_from (pos 0) (pos amount -ℤ pos worth_left) h in
    (omega (arith, ints), omega (arith, ints))

abbrev IsCosted : TableColumn → Type 0
IsCosted c = (bid : Choice) → column_bid c.name ≡ Some bid → IsCostOfBid c.cost

none_named : (bid : Choice) → column_bid (codes "K") ≡ Some bid → ⊥
unfolding column_bid
none_named bid e = cc

module _ (lots : Lots) (book : Book) where
  all_costed : (rows : List Subject) (offers : List Offer) → AreOffers lots offers
      → AllByRecursion (λ (o : Offer). Unit {0} × (is_kept_offer lots book (λ b. false) o ≡ true)) offers
      → AllByRecursion IsCosted (map (column_of lots rows) offers ++ worth_column lots)
  all_costed rows [] h k = cond_both (worth_of_all lots == 0) [] (record {
    name = codes "K";
    bounds = One;
    cost = neg_ℤ (pos (worth_of_all lots));
    entries = [];
  } ∷ []) (AllByRecursion IsCosted) (λ e. tt) (λ e. ((λ bid named. absurd (none_named bid named)), tt))
  all_costed rows (o ∷ offers) h k =
      let outside = and_parts true (is_kept lots (form_of book o.bidder) o.bid) k.0.1 in
      let kept = and_parts (fits lots o.bid.package && int_le (pos 0) (net lots o.bid)) (not (list_any (λ y. dominates lots y o.bid) (form_of book o.bidder)))
      outside.1 in
      let brings = and_parts (fits lots o.bid.package) (int_le (pos 0) (net lots o.bid)) kept.0 in
      ((λ bid named. kept_cost o.bid.amount (worth lots o.bid.package) h.0.bid.amount brings.1), all_costed rows offers h.2 k.1)

  at_costed : (cs : List TableColumn) (i : ℕ) (bid : Choice) (cost : ℤ) → AllByRecursion IsCosted cs
      → option_map (λ (c : TableColumn). column_bid c.name) (slice_get cs i) ≡ Some (Some bid)
      → option_map (λ (c : TableColumn). c.cost) (slice_get cs i) ≡ Some cost → IsCostOfBid cost
  at_costed [] i bid cost all named costs = cc
  at_costed (c ∷ cs) zero bid cost all named costs =
      let name : column_bid c.name ≡ Some bid = cc in
      let same : c.cost ≡ cost = cc in
      subst IsCostOfBid same (all.0 bid name)
  at_costed (c ∷ cs) (suc i) bid cost all named costs = at_costed cs i bid cost all.1 named costs

  -- what a column of a kept bid costs
  pub cost_of_bid : IsBook lots book → (i : ℕ) (bid : Choice) (cost : ℤ) (p : Table) → p ≡ program_of lots (kept_of lots book (λ b. false))
      → option_map (λ (c : TableColumn). column_bid c.name) (slice_get p.columns i) ≡ Some (Some bid)
      → option_map (λ (c : TableColumn). c.cost) (slice_get p.columns i) ≡ Some cost → IsCostOfBid cost
  cost_of_bid within i bid cost p is named costs =
      let kept = kept_of lots book (λ b. false) in
      let all = all_costed (subjects lots kept) kept (kept_are_offers lots book (λ b. false) within)
      (all_filter (λ (o : Offer). Unit {0}) (is_kept_offer lots book (λ b. false)) (offers_from 1 book) (each _ (offers_from 1 book) (λ o. tt))) in
      at_costed p.columns i bid cost (subst (λ (q : Table). AllByRecursion IsCosted q.columns) (sym is) all) named costs

-- such a cost fits 64 bits
cost_fits : (z : ℤ) → IsCostOfBid z → SFits w64 z
cost_fits (pos n) h = record { sfits = (let high = h.1 in omega (arith, ints)) }
cost_fits (negsuc n) h = record { sfits = (let low = h.0 in omega (arith, ints)) }

pub cost_as_it_is : (z : ℤ) → IsCostOfBid z → to_z w64 (of_z w64 z) ≡ z
cost_as_it_is z h = to_z-of_z w64 z (cost_fits z h)
