-- Different bids have different names, and a name is read back.
use Rattle.std.proofs.Common.{◌≡◌, ℕ, suc, ◌+◌, ◌^◌, ◌<◌, ◌≤◌, Bool, true, false, cond, ◌&&◌, nat_le, List, [], ◌∷◌, ◌++◌}
use Rattle.std.proofs.Common.{Some, None, length, refl, sym, ap, ap₂, ◌∙◌, arith, leb-true, take, drop}
use Rattle.std.specs.Prelude.{decimal, bytes_eq, ◌==◌}
use Rattle.std.specs.List.{slice_split, AllByRecursion, before_first, after_first, position_or_len}
use Rattle.std.specs.Str.Parse.{AllDigits, digits_value}
use Rattle.std.proofs.lemmas.Bool.{and_parts}
use Rattle.std.proofs.lemmas.Bool.Decides.{nat_tests}
use Rattle.std.proofs.lemmas.List.{take_at}
use Rattle.std.proofs.lemmas.List.Elements.{All-from_recursion}
use Rattle.std.proofs.lemmas.List.Splits.{slice_split_at, slice_split_none}
use Rattle.std.proofs.lemmas.Option.{same_Some}
use Rattle.std.proofs.lemmas.Slice.Eq.{bytes_eq-Decides}
use Rattle.auction_terms.specs.declared.bids.Choice.{Choice}
use Rattle.auction_terms.specs.declared.limits.TheConstants.{MOST_BIDDERS, MOST_BIDS}
use Rattle.program_rows.specs.Named.{ReadsBack, ReadsNamesAlone, NamesDiffer}
use Rattle.std.proofs.lemmas.Str.Parse.{digit_from_value}
use Rattle.std.proofs.lemmas.Fmt.{decimal_is_IsNumeral, decimal_injective}
use Rattle.program_rows.specs.Spelling.{bid_name, is_bid, column_bid}

pub no_bar : (ds : List ℕ) → AllDigits 10 ds → AllByRecursion (λ b. (b == 95) ≡ false) ds
no_bar [] h = tt
no_bar (d ∷ ds) h = let in_range = digit_from_value d h.0 in (grind (arith, nat_tests), no_bar ds h.1)

parts : (b j : ℕ) → b < 2 ^ 64 → j < 2 ^ 64 → slice_split (λ (c : ℕ). c == 95) (decimal b ++ 95 ∷ decimal j) ≡ decimal b ∷ decimal j ∷ []
parts b j hb hj =
    let db = no_bar (decimal b) (decimal_is_IsNumeral b hb).0.1 in
    let dj = no_bar (decimal j) (decimal_is_IsNumeral j hj).0.1 in
    slice_split_at (λ c. c == 95) (decimal b) 95 (decimal j) (All-from_recursion (λ c. (c == 95) ≡ false) (decimal b) db) refl
    ∙ ap (λ (w : List (List ℕ)). decimal b ∷ w) (slice_split_none (λ c. c == 95) (decimal j) (All-from_recursion (λ c. (c == 95) ≡ false) (decimal j) dj))

pub bid_name-injective : (b j c k : ℕ) → b < 2 ^ 64 → j < 2 ^ 64 → c < 2 ^ 64 → k < 2 ^ 64 → bid_name b j ≡ bid_name c k → (b ≡ c) × (j ≡ k)
bid_name-injective b j c k hb hj hc hk e =
    let tails : decimal b ++ 95 ∷ decimal j ≡ decimal c ++ 95 ∷ decimal k = cc in
    let lists : decimal b ∷ decimal j ∷ [] ≡ decimal c ∷ decimal k ∷ [] =
    sym (parts b j hb hj) ∙ ap (slice_split (λ (c : ℕ). c == 95)) tails ∙ parts c k hc hk in
    let left : decimal b ≡ decimal c = cc in
    let right : decimal j ≡ decimal k = cc in
    (decimal_injective b c hb hc left, decimal_injective j k hj hk right)

-- the numbers of a bid are small
module _ (b j : ℕ) (h : is_bid b j ≡ true) where
  pub bidder_range : (1 ≤ b) × (b ≤ MOST_BIDDERS)
  bidder_range = let e = and_parts (nat_le 1 b && nat_le b MOST_BIDDERS) (nat_le 1 j && nat_le j MOST_BIDS) h in let f =
      and_parts (nat_le 1 b) (nat_le b MOST_BIDDERS) e.0 in (leb-true 1 b f.0, leb-true b MOST_BIDDERS f.1)

  pub bid_range : (1 ≤ j) × (j ≤ MOST_BIDS)
  bid_range = let e = and_parts (nat_le 1 b && nat_le b MOST_BIDDERS) (nat_le 1 j && nat_le j MOST_BIDS) h in let f =
      and_parts (nat_le 1 j) (nat_le j MOST_BIDS) e.1 in (leb-true 1 j f.0, leb-true j MOST_BIDS f.1)

  bidder_small : b < 2 ^ 64
  bidder_small = let r = bidder_range in let l = r.1 in omega arith

  bid_small : j < 2 ^ 64
  bid_small = let r = bid_range in let l = r.1 in omega arith

pub names_differ : NamesDiffer
names_differ b j c k h i e = bid_name-injective b j c k (bidder_small b j h) (bid_small b j h) (bidder_small c k i) (bid_small c k i) e

-- what comes before and after the bar
pub bar_at : (xs ys : List ℕ) → AllByRecursion (λ b. (b == 95) ≡ false) xs → position_or_len (λ (c : ℕ). c == 95) (xs ++ 95 ∷ ys) ≡ length xs
bar_at [] ys h = refl
bar_at (x ∷ xs) ys h = let r = bar_at xs ys h.1 in rw h.0 (omega arith)

left_after : (xs ys : List ℕ) (y n : ℕ) → n ≡ suc (length xs) → drop n (xs ++ y ∷ ys) ≡ ys
left_after [] ys y n e = rw e refl
left_after (x ∷ xs) ys y n e = rw e (left_after xs ys y (suc (length xs)) refl)

pub before_at : (xs ys : List ℕ) → AllByRecursion (λ b. (b == 95) ≡ false) xs → before_first (λ (c : ℕ). c == 95) (xs ++ 95 ∷ ys) ≡ xs
before_at xs ys h = ap (λ (n : ℕ). take n (xs ++ 95 ∷ ys)) (bar_at xs ys h) ∙ take_at xs (95 ∷ ys) (length xs) refl

pub after_at : (xs ys : List ℕ) → AllByRecursion (λ b. (b == 95) ≡ false) xs → after_first (λ (c : ℕ). c == 95) (xs ++ 95 ∷ ys) ≡ ys
after_at xs ys h = left_after xs ys 95 (position_or_len (λ (c : ℕ). c == 95) (xs ++ 95 ∷ ys) + 1) (let p = bar_at xs ys h in omega arith)

read_bidder : (b j : ℕ) → b < 2 ^ 64 → digits_value 10 (before_first (λ (c : ℕ). c == 95) (drop 1 (bid_name b j))) ≡ b
read_bidder b j hb = let d = decimal_is_IsNumeral b hb in ap (digits_value 10) (before_at (decimal b) (decimal j) (no_bar (decimal b) d.0.1)) ∙ d.1

read_bid : (b j : ℕ) → b < 2 ^ 64 → j < 2 ^ 64 → digits_value 10 (after_first (λ (c : ℕ). c == 95) (drop 1 (bid_name b j))) ≡ j
read_bid b j hb hj = let d = decimal_is_IsNumeral b hb in
    ap (digits_value 10) (after_at (decimal b) (decimal j) (no_bar (decimal b) d.0.1)) ∙ (decimal_is_IsNumeral j hj).1

pub reads_back : ReadsBack
unfolding column_bid
reads_back b j h =
    let hb = bidder_small b j h in
    let hj = bid_small b j h in
    rw (read_bidder b j hb, read_bid b j hb hj, h, (bytes_eq-Decides (bid_name b j) (bid_name b j)).1 refl) refl

read_only : (name : List ℕ) (b j : ℕ) (c : Choice) (t : Bool) → (is_bid b j && bytes_eq name (bid_name b j)) ≡ t
    → cond t (Some record { bidder = b; bid = j }) None ≡ Some c → (is_bid c.bidder c.bid ≡ true) × (name ≡ bid_name c.bidder c.bid)
read_only name b j c true t e =
    let h = and_parts (is_bid b j) (bytes_eq name (bid_name b j)) t in
    let s = same_Some record { bidder = b; bid = j } c e in
    let x : b ≡ c.bidder = ap (λ (x : Choice). x.bidder) s in
    let y : j ≡ c.bid = ap (λ (x : Choice). x.bid) s in
    (sym (ap₂ is_bid x y) ∙ h.0, (bytes_eq-Decides name (bid_name b j)).0 h.1 ∙ ap₂ bid_name x y)
read_only name b j c false t e = cc

pub reads_names_alone : ReadsNamesAlone
unfolding column_bid
reads_names_alone name c e =
    let b = digits_value 10 (before_first (λ (c : ℕ). c == 95) (drop 1 name)) in
    let j = digits_value 10 (after_first (λ (c : ℕ). c == 95) (drop 1 name)) in
    read_only name b j c (is_bid b j && bytes_eq name (bid_name b j)) refl e
