-- What a settled history leaves standing.
use Rattle.std.proofs.Common.{◌≡◌, ℕ, zero, suc, ◌≤◌, List, [], ◌∷◌, Bool, true, false, length, refl, sym, ap, ◌∙◌, subst}
use Rattle.std.proofs.Common.{arith, IsTrue, not, ◌==◌, ◌&&◌, ◌%◌, nat_le, inl, inr}
use Rattle.std.specs.Prelude.{All, slice_index_or, Option, Some, None, IfSome}
use Rattle.std.specs.List.{last_or, list_all, range_with_len, AllByRecursion}
use Rattle.std.specs.Option.{option_map, option_and_then}
use Rattle.std.proofs.lemmas.Bool.{and_parts, cases_lt, eqb-true, leb-true}
use Rattle.std.proofs.lemmas.List.{get_or_past, length-map}
use Rattle.std.proofs.lemmas.List.Elements.{All-filter, All-map, All-weaker, recursion_from_All}
use Rattle.std.proofs.lemmas.List.Sums.{AllPass-from_list_all}
use Rattle.std.proofs.lemmas.List.FromFn.{get_or-map-range_with_len, length-map-range_with_len}
use Rattle.auction_terms.specs.Terms.{AreTerms, Terms, lots_in}
use Rattle.auction_terms.specs.Limits.{IsBid, IsBook}
use Rattle.auction_terms.specs.RulesText.{is_between}
use Rattle.auction_terms.specs.declared.rules.Category.{Category}
use Rattle.auction_terms.specs.declared.bids.Bid.{Bid}
use Rattle.auction_terms.specs.declared.limits.TheConstants.{GREATEST_AMOUNT, GREATEST_QUANTITY, MOST_BIDS}
use Rattle.auction_terms.specs.Allocations.{form_of}
use Rattle.bid_forms.specs.Offers.{Offers, Meets, eligibility_of, is_bid_under, points_of, reserve_of}
use Rattle.bid_book.specs.declared.call.Caller.{Caller}
use Rattle.bid_book.specs.declared.call.Caller.TheVariants.{Session, Chair}
use Rattle.bid_book.specs.declared.call.Call.{Call}
use Rattle.bid_book.specs.declared.call.Call.TheVariants.{Submit}
use Rattle.bid_book.specs.declared.reply.Reply.{Reply}
use Rattle.bid_book.specs.declared.reply.Reply.TheVariants.{Accepted}
use Rattle.bid_book.specs.declared.records.Entry.{Entry}
use Rattle.bid_book.specs.declared.standing.Standing.{Standing}
use Rattle.bid_book.specs.History.{entries_beside, changes, is_change_reply, is_beside, left_standing, standing_after, standing_of}
use Rattle.bid_desk.specs.Holding.{CallMeets, IsCallerOf, IsEntryOf}
use Rattle.bid_desk.specs.Closing.{Closing, bids_in, book_of, form_standing}

-- what holds of each item holds of the last
last_or-All : {X : Type 0} (P : X → Type 0) (o : Option X) (xs : List X) → IfSome o P → All P xs → IfSome (last_or o xs) P
last_or-All P o [] one all = one
last_or-All P o (x ∷ xs) one all = last_or-All P (Some x) xs (all 0 x (omega arith)) (λ k d l. all (suc k) d (omega arith))

-- a form that a change leaves standing is one that was submitted
left_standing-meets : (t : Terms) (call : Call Offers) (reply : Reply Offers) → CallMeets t call → IfSome (left_standing call reply) (λ s. Meets t s.form)
left_standing-meets t (Submit form over) (Accepted n) meets = meets
left_standing-meets t call reply meets = tt

last_left : (t : Terms) (o : Option (Entry Offers)) → IfSome o (IsEntryOf t)
    → IfSome (option_and_then (λ (e : Entry Offers). left_standing e.call e.reply) o) (λ s. Meets t s.form)
last_left t None entry = tt
last_left t (Some e) entry = left_standing-meets t e.call e.reply entry.form

-- the form that is left standing by entries of these rules meets the rules
pub standing_of-meets : (t : Terms) (h : List (Entry Offers)) → All (IsEntryOf t) h → (b : ℕ) → IfSome (standing_of h b) (λ s. Meets t s.form)
unfolding standing_of
standing_of-meets t h entries b =
    let own = entries_beside (Session b 0) h in
    let beside : All (IsEntryOf t) own = All-filter (λ (e : Entry Offers). is_beside (Session b 0) e.caller) (IsEntryOf t) h entries in
    let changed : All (IsEntryOf t) (changes own) = All-filter (λ (e : Entry Offers). is_change_reply e.reply) (IsEntryOf t) own beside in
    last_left t (last_or None (changes own)) (last_or-All (IsEntryOf t) None (changes own) tt changed)

-- a bidder that the rules do not name has no entries
not_beside : (t : Terms) (b : ℕ) (c : Caller) → IsCallerOf t c → ((1 ≤ b) → (b ≤ length t.bidders) → ⊥) → is_beside (Session b 0) c ≡ false
not_beside t b Chair known other = refl
not_beside t b (Session c s) known other = by (b == c) refl
  where
    by : (test : Bool) → (b == c) ≡ test → test ≡ false
    by false e = refl
    by true e =
        let same : b ≡ c = eqb-true b c e in
        absurd (other (subst (λ n. 1 ≤ n) (sym same) known.bidder_least) (subst (λ n. n ≤ length t.bidders) (sym same) known.bidder_most))

entries_beside-other : (t : Terms) (h : List (Entry Offers)) (b : ℕ) → All (IsEntryOf t) h → ((1 ≤ b) → (b ≤ length t.bidders) → ⊥)
    → entries_beside (Session b 0) h ≡ []
entries_beside-other t [] b entries other = refl
entries_beside-other t (e ∷ h) b entries other =
    rw (not_beside t b e.caller (entries 0 e (omega arith)).caller other) (entries_beside-other t h b (λ k d l. entries (suc k) d (omega arith)) other)

standing_of-other : (t : Terms) (h : List (Entry Offers)) (b : ℕ) → All (IsEntryOf t) h → ((1 ≤ b) → (b ≤ length t.bidders) → ⊥) → standing_of h b ≡ None
unfolding standing_of
standing_of-other t h b entries other = ap standing_after (entries_beside-other t h b entries other)

-- the form of a bidder in the book is the one that it leaves standing
pub form_of-book_of : (c : Closing) → All (IsEntryOf c.rules) c.history → (b : ℕ) → bids_in (form_standing c.history b) ≡ form_of (book_of c) b
form_of-book_of c entries zero =
    ap (λ s. bids_in (option_map (λ (s : Standing Offers). s.form) s)) (standing_of-other c.rules c.history 0 entries (λ least most. omega arith))
form_of-book_of c entries (suc b) =
    elim (cases_lt b (length c.rules.bidders)) [
      | inl l ↦ sym (get_or-map-range_with_len (λ bidder. bids_in (form_standing c.history bidder)) 1 (length c.rules.bidders) b (suc b) [] l (omega arith))
      | inr l ↦
          ap (λ s. bids_in (option_map (λ (s : Standing Offers). s.form) s)) (standing_of-other c.rules c.history (suc b) entries (λ least most. omega arith))
          ∙ sym (get_or_past (book_of c) b [] (omega (
            arith,
            length-map-range_with_len (λ bidder. bids_in
                (form_standing c.history bidder)) 1 (length c.rules.bidders),
          )))
    ]

-- a bid that rules allow is within the limits
IsBid-under : (t : Terms) (eligibility : ℕ) (bid : Bid) → IsTrue (is_bid_under t eligibility bid) → IsBid (lots_in t) bid
IsBid-under t eligibility bid allowed =
    let sized = length bid.package == length t.categories in
    let priced = is_between 1 GREATEST_AMOUNT bid.amount in
    let stepped = bid.amount % t.step == 0 in
    let counted = list_all (λ (quantity : ℕ). nat_le quantity GREATEST_QUANTITY) bid.package in
    let some = not (list_all (λ (quantity : ℕ). quantity == 0) bid.package) in
    let eligible = nat_le (points_of t.categories bid.package) eligibility in
    let dear = nat_le (reserve_of t.categories bid.package) bid.amount in
    let six = (and_parts (sized && priced && stepped && counted && some && eligible) dear allowed).0 in
    let five = (and_parts (sized && priced && stepped && counted && some) eligible six).0 in
    let four = (and_parts (sized && priced && stepped && counted) some five).0 in
    let three = and_parts (sized && priced && stepped) counted four in
    let two = (and_parts (sized && priced) stepped three.0).0 in
    let one = and_parts sized priced two in
    record {
      sized = eqb-true _ _ one.0 ∙ sym (length-map t.categories (λ (c : Category). c.supply));
      quantities = recursion_from_All (λ n. n ≤ GREATEST_QUANTITY) bid.package
          (All-weaker (λ n. nat_le n GREATEST_QUANTITY ≡ true) (λ n. n ≤ GREATEST_QUANTITY) (λ n small. leb-true n GREATEST_QUANTITY small)
          bid.package (AllPass-from_list_all (λ n. nat_le n GREATEST_QUANTITY) bid.package three.1));
      amount = leb-true _ _ (and_parts (nat_le 1 bid.amount) (nat_le bid.amount GREATEST_AMOUNT) one.1).1;
    }

standing-few : (t : Terms) (s : Option (Standing Offers)) → IfSome s (λ s. Meets t s.form)
    → length (bids_in (option_map (λ (s : Standing Offers). s.form) s)) ≤ MOST_BIDS
standing-few t None meets = omega arith
standing-few t (Some s) meets = meets.few

standing-each : (t : Terms) (s : Option (Standing Offers)) → IfSome s (λ s. Meets t s.form)
    → AllByRecursion (IsBid (lots_in t)) (bids_in (option_map (λ (s : Standing Offers). s.form) s))
standing-each t None meets = tt
standing-each t (Some s) meets =
    recursion_from_All (IsBid (lots_in t)) s.form.bids
    (All-weaker (λ bid. IsTrue (is_bid_under t (eligibility_of t s.form.bidder) bid)) (IsBid (lots_in t))
    (λ bid allowed. IsBid-under t (eligibility_of t s.form.bidder) bid allowed) s.form.bids meets.each)

-- the book that a history leaves is within the limits
pub IsBook-book_of : (c : Closing) → AreTerms c.rules → All (IsEntryOf c.rules) c.history → IsBook (lots_in c.rules) (book_of c)
IsBook-book_of c terms entries =
    let t = c.rules in
    let n = length t.bidders in
    let form = λ (bidder : ℕ). bids_in (form_standing c.history bidder) in
    record {
      bidders = omega (arith, length-map-range_with_len form 1 n, terms.limits.bidder_count);
      forms = recursion_from_All (λ bids. length bids ≤ MOST_BIDS) (book_of c)
          (All-map (λ bids. length bids ≤ MOST_BIDS) form (range_with_len 1 n)
          (λ k d l. standing-few t (standing_of c.history (slice_index_or (range_with_len 1 n) k d))
          (standing_of-meets t c.history entries (slice_index_or (range_with_len 1 n) k d))));
      bids = recursion_from_All (AllByRecursion (IsBid (lots_in t))) (book_of c)
          (All-map (AllByRecursion (IsBid (lots_in t))) form (range_with_len 1 n)
          (λ k d l. standing-each t (standing_of c.history (slice_index_or (range_with_len 1 n) k d))
          (standing_of-meets t c.history entries (slice_index_or (range_with_len 1 n) k d))));
    }
