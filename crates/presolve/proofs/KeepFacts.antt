-- Laws of the kept bids of a book, bidder by bidder.
use Rattle.std.proofs.Common.{◌≡◌, ℕ, suc, ◌+◌, ◌-◌, ◌<◌, ◌≤◌, Bool, true, false, not, ◌&&◌, cond, List, [], ◌∷◌, ◌++◌}
use Rattle.std.proofs.Common.{length, drop, map, slice_index_or, get_or, sym, refl, ap, ap₂, ◌∙◌, subst, arith}
use Rattle.std.proofs.Common.{append_assoc, append-nil}
use Rattle.std.specs.Prelude.{All, AllPairs, Contains, filter, IfOk, MatchResult, Result, Ok, Err, Some, zero}
use Rattle.std.specs.List.{AllByRecursion, AllZip, range_with_len}
use Rattle.std.specs.declared.alloc.AllocError.{AllocError}
use Rattle.std.specs.declared.vec.Vec.{Vec}
use Rattle.std.specs.Global.{Global}
use Rattle.std.proofs.lemmas.List.{length-map, map-append, drop_all, get_or-map}
use Rattle.std.proofs.lemmas.List.Elements.{filter-append, All-from_recursion}
use Rattle.std.proofs.lemmas.List.FromFn.{length-map-range_with_len}
use Rattle.std.proofs.lemmas.List.Kept.{AllPairs-cons}
use Rattle.std.proofs.lemmas.Simd.{map-map}
use Rattle.std.proofs.Math.Seq.{drop-cons}
use Rattle.auction_terms.specs.declared.bids.Bid.{Bid}
use Rattle.auction_terms.specs.declared.bids.KeptBid.{KeptBid}
use Rattle.auction_terms.specs.declared.bids.Choice.{Choice}
use Rattle.auction_terms.specs.declared.rules.Bidder.{Bidder}
use Rattle.auction_terms.specs.Packages.{Lots}
use Rattle.auction_terms.specs.Terms.{Terms}
use Rattle.auction_terms.specs.Domination.{is_kept}
use Rattle.auction_terms.specs.Allocations.{Book, bid_at, bid_of, form_of}
use Rattle.auction_terms.specs.Bids.{IsKeptBid, AreKept, Precedes}
use Rattle.auction_terms.specs.Keeping.{Offer, offers_of_form, offers_from, kept_of}
use Rattle.auction_terms.specs.inside.Keeping.{is_kept_offer}
use Rattle.auction_terms.specs.Limits.{AreOffers, IsBefore, IsBook}
use Rattle.auction_terms.specs.Offers.{offers, offer_of}
use Rattle.auction_terms.proofs.LimitFacts.{kept_are_offers}
use Rattle.bid_desk.specs.Closing.{Closing, book_of, bids_in, form_standing}
use Rattle.presolve.specs.Flags.{flags_of, kept_in_form}
use Rattle.presolve.specs.inside.Flags.{flagged_from}
use Rattle.presolve.proofs.ChoiceFacts.{bidder_within, flag_is, its_bid_at}

-- a book has a form for each bidder of its rules
pub length_book : (c : Closing) (t : Terms) (bidders : List Bidder) → bidders ≡ t.bidders → t ≡ c.rules → length bidders ≡ length (book_of c)
length_book c t bidders e r =
    ap (λ (bs : List Bidder). length bs) e ∙ ap (λ (t : Terms). length t.bidders) r
    ∙ sym (length-map-range_with_len (λ bidder. bids_in (form_standing c.history bidder)) 1 (length c.rules.bidders))

-- the form of the next bidder, and those after
pub next_form : (book : Book) (i : ℕ) → i < length book → drop i book ≡ form_of book (i + 1) ∷ drop (i + 1) book
next_form book i l = drop-cons book i [] l ∙ ap (λ (n : ℕ). form_of book n ∷ drop n book) (let e : suc i ≡ i + 1 = omega arith in e)

-- what holds of all holds of the first
before_first : {X : Type 0} (P : X → Type 0) (xs ys : List X) → AllByRecursion P (xs ++ ys) → AllByRecursion P xs
before_first P [] ys a = tt
before_first P (x ∷ xs) ys a = (a.0, before_first P xs ys a.1)

-- offers in two parts
pub offers_parted : (lots : Lots) (xs ys : List Offer) → AreOffers lots (xs ++ ys) → AreOffers lots xs × AreOffers lots ys
offers_parted lots [] ys a = (tt, a)
offers_parted lots (x ∷ xs) ys a = let rest = offers_parted lots xs ys a.2 in ((a.0, before_first (IsBefore x) xs ys a.1, rest.0), rest.1)

-- the flagged ones of a form from a bid on: that bid, if it is flagged, and those after
flagged_at : (b i j : ℕ) (bids : List Bid) (flags : List Bool) (x : Bid) (flag : Bool) → i < length bids → i < length flags
    → x ≡ get_or bids i x → get_or flags i false ≡ flag
    → flagged_from b j (drop i bids) (drop i flags) ≡ cond flag (record { bidder = b; number = j; bid = x } ∷ flagged_from b (j + 1)
    (drop (i + 1) bids) (drop (i + 1) flags)) (flagged_from b (j + 1) (drop (i + 1) bids) (drop (i + 1) flags))
flagged_at b i j bids flags x flag within long is f =
    let next : suc i ≡ i + 1 = omega arith in
    ap₂ (λ (xs : List Bid) (fs : List Bool). flagged_from b j xs fs)
    (drop-cons bids i x within ∙ ap (λ (y : Bid). y ∷ drop (suc i) bids) (sym is))
    (drop-cons flags i false long ∙ ap (λ (y : Bool). y ∷ drop (suc i) flags) f)
    ∙ ap (λ (n : ℕ). cond flag (record { bidder = b; number = j; bid = x } ∷ flagged_from b (j + 1) (drop n bids) (drop n flags))
    (flagged_from b (j + 1) (drop n bids) (drop n flags))) next

-- one more is kept
pub flagged_more : (b i : ℕ) (bids : List Bid) (flags : List Bool) (x : Bid) (k : KeptBid) (kept : List KeptBid) (all : List Offer)
    → i < length bids → i < length flags → x ≡ get_or bids i x → get_or flags i false ≡ true
    → offer_of k ≡ record { bidder = b; number = i + 1; bid = x }
    → offers kept ++ flagged_from b (1 + i) (drop i bids) (drop i flags) ≡ all
    → offers (kept ++ k ∷ []) ++ flagged_from b (1 + (i + 1)) (drop (i + 1) bids) (drop (i + 1) flags) ≡ all
flagged_more b i bids flags x k kept all within long is set own so_far =
    let rest = flagged_from b (1 + (i + 1)) (drop (i + 1) bids) (drop (i + 1) flags) in
    let after : 1 + i + 1 ≡ 1 + (i + 1) = omega arith in
    let number : i + 1 ≡ 1 + i = omega arith in
    ap (λ (os : List Offer). os ++ rest) (map-append offer_of kept (k ∷ []))
    ∙ append_assoc (offers kept) (offer_of k ∷ []) rest
    ∙ ap (λ (o : Offer). offers kept ++ o ∷ rest) (own ∙ ap (λ (n : ℕ). record { bidder = b; number = n; bid = x }) number)
    ∙ ap (λ (n : ℕ). offers kept ++ record { bidder = b; number = 1 + i; bid = x } ∷ flagged_from b n (drop (i + 1) bids) (drop (i + 1) flags)) (sym after)
    ∙ ap (λ (os : List Offer). offers kept ++ os) (sym (flagged_at b i (1 + i) bids flags x true within long is set))
    ∙ so_far

-- or none
pub flagged_less : (b i : ℕ) (bids : List Bid) (flags : List Bool) (x : Bid) (kept : List KeptBid) (all : List Offer) → i < length bids
    → i < length flags → x ≡ get_or bids i x → get_or flags i false ≡ false
    → offers kept ++ flagged_from b (1 + i) (drop i bids) (drop i flags) ≡ all
    → offers kept ++ flagged_from b (1 + (i + 1)) (drop (i + 1) bids) (drop (i + 1) flags) ≡ all
flagged_less b i bids flags x kept all within long is unset so_far =
    let after : 1 + i + 1 ≡ 1 + (i + 1) = omega arith in
    ap (λ (n : ℕ). offers kept ++ flagged_from b n (drop (i + 1) bids) (drop (i + 1) flags)) (sym after)
    ∙ ap (λ (os : List Offer). offers kept ++ os) (sym (flagged_at b i (1 + i) bids flags x false within long is unset))
    ∙ so_far

-- the flags of a form pick what the rule keeps
pub by_flags : (lots : Lots) (form : List Bid) (b j : ℕ) (rest : List Bid)
    → flagged_from b j rest (map (is_kept lots form) rest) ≡ filter (λ o. is_kept lots form o.bid) (offers_of_form b j rest)
by_flags lots form b j [] = refl
by_flags lots form b j (x ∷ rest) = ap (λ (os : List Offer). cond (is_kept lots form x) (record { bidder = b; number = j; bid = x } ∷ os)
    os) (by_flags lots form b (j + 1) rest)

module _ (lots : Lots) (book : Book) (group : ℕ → Bool) where
  pub kept_outside : (b j : ℕ) (form : List Bid) (rest : List Bid) → group b ≡ false → form_of book b ≡ form
      → filter (λ o. is_kept lots form o.bid) (offers_of_form b j rest) ≡ filter (is_kept_offer lots book group) (offers_of_form b j rest)
  kept_outside b j form [] g f = refl
  kept_outside b j form (x ∷ rest) g f =
      let test : is_kept lots form x ≡ is_kept_offer lots book group record { bidder = b; number = j; bid = x } =
      sym (ap₂ (λ (y : Bool) (w : List Bid). not y && is_kept lots w x) g f) in
      ap₂ (λ (y : Bool) (os : List Offer). cond y (record { bidder = b; number = j; bid = x } ∷ os) os) test (kept_outside b (j + 1) form rest g f)

  pub none_inside : (b j : ℕ) (rest : List Bid) → group b ≡ true → filter (is_kept_offer lots book group) (offers_of_form b j rest) ≡ []
  none_inside b j [] g = refl
  none_inside b j (x ∷ rest) g =
      let test : is_kept_offer lots book group record { bidder = b; number = j; bid = x } ≡ false =
      ap (λ (y : Bool). not y && is_kept lots (form_of book b) x) g in
      ap₂ (λ (y : Bool) (os : List Offer). cond y (record { bidder = b; number = j; bid = x } ∷ os) os) test (none_inside b (j + 1) rest g)

  -- what is kept from a bidder on
  abbrev kept_from : ℕ → ℕ → List Offer
  kept_from b i = filter (is_kept_offer lots book group) (offers_from b (drop i book))

  pub next_kept : (i : ℕ) → i < length book → kept_from (1 + i) i
      ≡ filter (is_kept_offer lots book group) (offers_of_form (i + 1) 1 (form_of book (i + 1))) ++ kept_from (1 + (i + 1)) (i + 1)
  next_kept i l =
      ap (λ (rest : Book). filter (is_kept_offer lots book group) (offers_from (1 + i) rest)) (next_form book i l)
      ∙ filter-append (is_kept_offer lots book group) (offers_of_form (1 + i) 1 (form_of book (i + 1))) (offers_from (1 + i + 1) (drop (i + 1) book))
      ∙ ap₂ (λ (b n : ℕ). filter (is_kept_offer lots book group) (offers_of_form b 1 (form_of book (i + 1))) ++ kept_from n (i + 1))
      (let e : 1 + i ≡ i + 1 = omega arith in e) (let e : 1 + i + 1 ≡ 1 + (i + 1) = omega arith in e)

  -- one bidder more
  pub kept_more : (i : ℕ) (old new : List Offer) → i < length book → old ++ kept_from (1 + i) i ≡ kept_of lots book group
      → new ≡ old ++ filter (is_kept_offer lots book group) (offers_of_form (i + 1) 1 (form_of book (i + 1)))
      → new ++ kept_from (1 + (i + 1)) (i + 1) ≡ kept_of lots book group
  kept_more i old new l h n =
      let own = filter (is_kept_offer lots book group) (offers_of_form (i + 1) 1 (form_of book (i + 1))) in
      ap (λ (os : List Offer). os ++ kept_from (1 + (i + 1)) (i + 1)) n ∙ append_assoc old own (kept_from (1 + (i + 1)) (i + 1))
      ∙ ap (λ (os : List Offer). old ++ os) (sym (next_kept i l)) ∙ h

  kept_from_are : (i : ℕ) → i ≤ length book → IsBook lots book → AreOffers lots (kept_from (1 + i) i)
  kept_from_are zero l limits = kept_are_offers lots book group limits
  kept_from_are (suc i) l limits =
      let own = filter (is_kept_offer lots book group) (offers_of_form (i + 1) 1 (form_of book (i + 1))) in
      let both = subst (AreOffers lots) (next_kept i (omega arith)) (kept_from_are i (omega arith) limits) in
      let next : i + 1 ≡ suc i = omega arith in
      subst (λ (n : ℕ). AreOffers lots (kept_from (1 + n) n)) next (offers_parted lots own (kept_from (1 + (i + 1)) (i + 1)) both).1

  pub form_are : (i : ℕ) → i < length book → IsBook lots book
      → AreOffers lots (filter (is_kept_offer lots book group) (offers_of_form (i + 1) 1 (form_of book (i + 1))))
  form_are i l limits =
      let own = filter (is_kept_offer lots book group) (offers_of_form (i + 1) 1 (form_of book (i + 1))) in
      (offers_parted lots own (kept_from (1 + (i + 1)) (i + 1)) (subst (AreOffers lots) (next_kept i l) (kept_from_are i (omega arith) limits))).0

  pub all_kept : (i : ℕ) (os : List Offer) → length book ≤ i → os ++ kept_from (1 + i) i ≡ kept_of lots book group → os ≡ kept_of lots book group
  all_kept i os l h = sym (append-nil os) ∙ ap (λ (rest : Book). os ++ filter (is_kept_offer lots book group) (offers_from (1 + i) rest))
      (sym (drop_all i book l)) ∙ h

module _ (lots : Lots) (book : Book) where
  pub length_flags : (forms : List (Vec Bool Global)) → map (λ (f : Vec Bool Global). f.items) forms ≡ flags_of lots book → length forms ≡ length book
  length_flags forms e = sym (length-map forms (λ (f : Vec Bool Global). f.items)) ∙ ap (λ (fs : List (List Bool)). length fs) e
      ∙ length-map book (λ (form : List Bid). map (is_kept lots form) form)

  flag_of_form : (b : Book) (i : ℕ) → i < length b → slice_index_or (flags_of lots b) i [] ≡ map (is_kept lots (slice_index_or b i [])) (slice_index_or b i [])
  flag_of_form b i l = get_or-map (λ (form : List Bid). map (is_kept lots form) form) b i [] [] l

  -- the flags of a bidder's form
  pub flags_at : (forms : List (Vec Bool Global)) (i : ℕ) (form : Vec Bool Global)
      → map (λ (f : Vec Bool Global). f.items) forms ≡ flags_of lots book → i < length forms → form ≡ get_or forms i form
      → (i < length book) × (form.items ≡ map (is_kept lots (form_of book (i + 1))) (form_of book (i + 1)))
  flags_at forms i form e l at =
      let long = length_flags forms e in
      let within : i < length book = omega arith in (
        within,
        ap (λ (f : Vec Bool Global). f.items) at ∙ sym (get_or-map (λ (f : Vec Bool Global). f.items) forms i form [] l)
            ∙ ap (λ (fs : List (List Bool)). slice_index_or fs i []) e
            ∙ flag_of_form book i within ∙ ap (λ (n : ℕ). map (is_kept lots (form_of book n)) (form_of book n)) (let s : suc i ≡ i + 1 = omega arith in s),
      )

-- the bid of a choice and its flag, which are looked up by numbers less one
module _ (lots : Lots) (book : Book) (forms : List (Vec Bool Global)) (c : Choice) (flags : Vec Bool Global) (bids : List Bid)
    (bidder number : ℕ) (all : map (λ (f : Vec Bool Global). f.items) forms ≡ flags_of lots book)
    (bids_are : bids ≡ form_of book c.bidder) (some : 1 ≤ c.bid) (most : c.bid ≤ length bids) (bidder_is : bidder ≡ c.bidder)
    (number_is : number ≡ c.bid) (at : flags ≡ get_or forms (bidder - 1) flags) where
  pub its_flags : flags.items ≡ map (is_kept lots bids) bids
  its_flags =
      let long = length_flags lots book forms all in
      let (low, high) = bidder_within book c.bidder (let n = ap length bids_are in omega arith) in
      let there : bidder - 1 < length forms = omega arith in
      let back : bidder - 1 + 1 ≡ c.bidder = omega arith in
      (flags_at lots book forms (bidder - 1) flags all there at).1
      ∙ ap (λ (n : ℕ). map (is_kept lots (form_of book n)) (form_of book n)) back
      ∙ ap (λ (form : List Bid). map (is_kept lots form) form) (sym bids_are)

  pub its_flag : (x : Bid) (flag : Bool) → x ≡ get_or bids (number - 1) x → flag ≡ get_or flags.items (number - 1) flag
      → (bid_of book c ≡ Some x) × (is_kept lots (form_of book c.bidder) x ≡ flag)
  its_flag x flag here is = (
    ap (λ (form : List Bid). bid_at form c.bid) (sym bids_are) ∙ its_bid_at bids c.bid x some most (here ∙ ap (λ (n : ℕ). get_or bids (n - 1) x) number_is),
    ap (λ (form : List Bid). is_kept lots form x) (sym bids_are) ∙ flag_is lots bids flags.items (number - 1) x flag its_flags (omega arith) here is,
  )

precedes_all : (k : KeptBid) (ks : List KeptBid) → AllByRecursion (IsBefore (offer_of k)) (offers ks) → AllByRecursion (Precedes k) ks
precedes_all k [] a = tt
precedes_all k (l ∷ ks) a = (a.0, precedes_all k ks a.1)

rising : (lots : Lots) (ks : List KeptBid) → AreOffers lots (offers ks) → AllPairs Precedes ks
rising lots [] a = λ i j d before within. absurd (omega arith)
rising lots (k ∷ ks) a = AllPairs-cons Precedes k ks (All-from_recursion (Precedes k) ks (precedes_all k ks a.1)) (rising lots ks a.2)

pub are_kept : (lots : Lots) (os : List Offer) (ks : List KeptBid) → AreOffers lots os → All IsKeptBid ks → offers ks ≡ os → AreKept ks
are_kept lots os ks are each e = record { each = each; rising = rising lots ks (subst (AreOffers lots) (sym e) are) }

-- the kept bids of a form, by the flags of that form
pub form_offers : (lots : Lots) (book : Book) (b : ℕ) → 1 ≤ b → b ≤ length book → IsBook lots book → AreOffers lots (kept_in_form lots b (form_of book b))
form_offers lots book zero some within limits = absurd (omega arith)
form_offers lots book (suc i) some within limits =
    let nobody : ℕ → Bool = λ n. false in
    let next : i + 1 ≡ suc i = omega arith in
    let own = subst (λ (n : ℕ). AreOffers lots (filter (is_kept_offer lots book nobody) (offers_of_form n 1 (form_of book n)))) next
    (form_are lots book nobody i (omega arith) limits) in
    subst (AreOffers lots) (sym (kept_outside lots book nobody (suc i) 1 (form_of book (suc i)) (form_of book (suc i)) refl refl)) own

-- the forms of the bidders from one on are those of the book from there on
forms_from : (book : Book) (i n : ℕ) → i + n ≡ length book → map (form_of book) (range_with_len (i + 1) n) ≡ drop i book
forms_from book i zero e = sym (drop_all i book (omega arith))
forms_from book i (suc n) e =
    let next : (i + 1) + n ≡ length book = omega arith in
    ap (λ (rest : Book). form_of book (i + 1) ∷ rest) (forms_from book (i + 1) n next) ∙ sym (next_form book i (omega arith))

-- the bidders from one on are those of two ranges, one after the other
ranges_joined : (first front back : ℕ) → range_with_len first (front + back) ≡ range_with_len first front ++ range_with_len (first + front) back
ranges_joined first zero back = ap (range_with_len first) (let e : 0 + back ≡ back = omega arith in e)
    ∙ ap (λ (n : ℕ). range_with_len n back) (let e : first ≡ first + 0 = omega arith in e)
ranges_joined first (suc front) back =
    ap (range_with_len first) (let e : suc front + back ≡ suc (front + back) = omega arith in e)
    ∙ ap (λ (ns : List ℕ). first ∷ ns) (ranges_joined (first + 1) front back ∙ ap
    (λ (n : ℕ). range_with_len (first + 1) front ++ range_with_len n back)
    (let e : first + 1 + front ≡ first + suc front = omega arith in e))

-- what is made of each form, as flags or reasons
module _ {X : Type 0} (of_form : List Bid → List X) (book : Book) where
  abbrev pub of_bidders : List ℕ → List (List X)
  of_bidders bidders = map (λ bidder. of_form (form_of book bidder)) bidders

  abbrev items_of : List (Vec X Global) → List (List X)
  items_of forms = map (λ (form : Vec X Global). form.items) forms

  -- that of a bidder's form, where it was made
  abbrev pub IsMade : ℕ → Result (Vec X Global) AllocError → Type 0
  IsMade bidder made = IfOk made (λ form. form.items ≡ of_form (form_of book bidder))

  each_made : (bidders : List ℕ) (forms : List (Vec X Global)) → AllZip IsMade bidders (map (λ form. Ok form) forms) → items_of forms ≡ of_bidders bidders
  each_made [] [] each = refl
  each_made [] (form ∷ forms) each = absurd each
  each_made (bidder ∷ bidders) [] each = absurd each
  each_made (bidder ∷ bidders) (form ∷ forms) each = ap₂ (λ x xs. x ∷ xs) each.0 (each_made bidders forms each.1)

  -- what is made for each of these bidders is that of their forms
  pub made_for_each : (bidders : List ℕ) (made : Result (Vec (Vec X Global) Global) AllocError)
      (answers : List (Result (Vec X Global) AllocError)) → AllZip IsMade bidders answers
      → MatchResult made (λ all. (forms : List (Vec X Global)) × (answers ≡ map (λ form. Ok form) forms) × (all.items ≡ forms)) (λ e. Contains answers (Err e))
      → IfOk made (λ all. items_of all.items ≡ of_bidders bidders)
  made_for_each bidders (Ok all) answers each (forms, are, all_is) = ap items_of all_is ∙ each_made bidders forms (rw are at each)
  made_for_each bidders (Err e) answers each h = tt

  -- that of all bidders is that of the book
  pub made_for_all : (count : ℕ) (made : List (List X)) → count ≡ length book → made ≡ of_bidders (range_with_len 1 count) → made ≡ map of_form book
  made_for_all count made all are =
      are ∙ ap (λ (n : ℕ). of_bidders (range_with_len 1 n)) all
      ∙ sym (map-map of_form (form_of book) (range_with_len 1 (length book)))
      ∙ ap (map of_form) (forms_from book 0 (length book) (omega arith))

  -- that of two ranges of bidders, one after the other, is that of the book
  pub made_in_two : (front back : ℕ) (forms others : List (Vec X Global)) → front + back ≡ length book
      → items_of forms ≡ of_bidders (range_with_len 1 front) → items_of others ≡ of_bidders (range_with_len (1 + front) back)
      → items_of (forms ++ others) ≡ map of_form book
  made_in_two front back forms others count are_front are_back =
      made_for_all (front + back) (items_of (forms ++ others)) count
      (map-append (λ (form : Vec X Global). form.items) forms others
      ∙ ap₂ (λ (xs ys : List (List X)). xs ++ ys) are_front are_back
      ∙ sym (map-append (λ bidder. of_form (form_of book bidder)) (range_with_len 1 front) (range_with_len (1 + front) back))
      ∙ ap of_bidders (sym (ranges_joined 1 front back)))
