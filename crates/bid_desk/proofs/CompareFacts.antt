-- Comparing the callers' own lists with a history, entry by entry.
use Rattle.std.proofs.Common.{◌≡◌, ◌≢◌, ℕ, ◌+◌, ◌-◌, ◌<◌, List, [], ◌∷◌, ◌++◌, true, length, take, refl, sym, ap, ◌∙◌}
use Rattle.std.proofs.Common.{subst, arith, length-append, IsTrue, inl, inr, replicate}
use Rattle.std.specs.Prelude.{All, Some, slice_get, slice_index_or}
use Rattle.std.proofs.Math.ListN.{set}
use Rattle.std.proofs.lemmas.Bool.{cases_eq, false_from_ne_true}
use Rattle.std.proofs.lemmas.List.{get_or-set_other, get_or-set_same, get_or_append_left, get_or_default, get_or-replicate}
use Rattle.std.proofs.lemmas.List.{length-replicate, take_all, length-set, length-take-le, take-append-le}
use Rattle.std.proofs.lemmas.Option.{get_or_from_slice_get, slice_get-get_or, slice_get_within}
use Rattle.auction_terms.specs.Terms.{Terms}
use Rattle.bid_forms.specs.Offers.{Offers}
use Rattle.bid_book.specs.declared.call.Caller.{Caller}
use Rattle.bid_book.specs.declared.call.Caller.TheVariants.{Session, Chair}
use Rattle.bid_book.specs.declared.call.Call.{Call}
use Rattle.bid_book.specs.declared.reply.Reply.{Reply}
use Rattle.bid_book.specs.declared.records.Entry.{Entry}
use Rattle.bid_book.specs.History.{is_same_caller, own_pairs}
use Rattle.bid_desk.specs.declared.comparing.Comparison.{Comparison}
use Rattle.bid_desk.specs.declared.comparing.Comparison.TheVariants.{Agrees, Differs}
use Rattle.bid_desk.specs.declared.comparing.Comparisons.{Comparisons}
use Rattle.bid_desk.specs.declared.slots.Slot.{Slot}
use Rattle.bid_desk.specs.Holding.{ChairOwn, IsCallerOf, IsEntryOf, SessionOwn, caller_of}
use Rattle.bid_desk.specs.Sessions.{IsSessionOf}
use Rattle.bid_desk.specs.Settlement.{AgreesAt, DiffersAt, IsFirstDifference, OwnIs, StandOnce, is_named, times_session}
use Rattle.bid_desk.specs.inside.Slots.{AreSlots, empty_slot, slot_at, slot_of}
use Rattle.bid_desk.specs.inside.Comparing.{AreCompared, IsCompared, IsWithin}
use Rattle.bid_desk.proofs.SettleFacts.{first_here, own_pairs_more, own_pairs_other, take_next}
use Rattle.bid_desk.proofs.SlotFacts.{named-is, slot-within}

module _ {X : Type 0} (theirs own : List X) (x : X) where
  slice_get-first : (i : ℕ) → i < length theirs → slice_get (theirs ++ x ∷ []) i ≡ slice_get theirs i
  slice_get-first i small =
      slice_get-get_or (theirs ++ x ∷ []) i x (omega (arith, length-append theirs (x ∷ [])))
      ∙ ap Some (get_or_append_left theirs (x ∷ []) x i small)
      ∙ sym (slice_get-get_or theirs i x small)

  -- lists that differed before still do
  pub compared-parted : (place : ℕ) → IsCompared theirs own (Differs place) → IsCompared (theirs ++ x ∷ []) own (Differs place)
  compared-parted place (first, small) =
      let least = first.least in (
        record {
          least = least;
          same = take-append-le (place - 1) theirs (x ∷ []) (omega arith) ∙ first.same;
          differs = λ e. first.differs (sym (slice_get-first (place - 1) (omega arith)) ∙ e);
        },
        omega (arith, length-append theirs (x ∷ [])),
      )

  -- the next items agree
  pub compared-agree : (pairs : ℕ) → IsCompared theirs own (Agrees pairs) → slice_get own pairs ≡ Some x
      → IsCompared (theirs ++ x ∷ []) own (Agrees (pairs + 1))
  compared-agree pairs (few, are) at =
      (let small = slice_get_within own pairs x at in omega arith, ap (λ w. w ++ x ∷ []) are ∙ sym (take_next own pairs x at))

  -- the next items differ
  pub compared-part : (pairs : ℕ) → IsCompared theirs own (Agrees pairs) → slice_get own pairs ≢ Some x
      → IsCompared (theirs ++ x ∷ []) own (Differs (pairs + 1))
  compared-part pairs (few, are) other =
      let long : length theirs ≡ pairs = ap length are ∙ length-take-le pairs own few in
      (first_here (theirs ++ x ∷ []) own pairs x [] (ap (λ w. w ++ x ∷ []) are) few other, omega (arith, length-append theirs (x ∷ [])))

-- if each session is there once, its slot leads to it
module _ (t : Terms) (sessions : List SessionOwn) (slots : List Slot) (are : AreSlots t sessions (length sessions) slots)
    (once : StandOnce t sessions) (b s : ℕ) (known : IsSessionOf t b s) where
  slot-once : (slot_at slots b s).times ≡ 1
  slot-once = are.times_are b s known ∙ ap (times_session b s) (take_all (length sessions) sessions (omega arith)) ∙ once.each b s known

  pub slot-small : slot_of b s < length slots
  slot-small = omega (arith, slot-within b s (length t.bidders) known.bidder_least known.bidder_most known.session_least (are.most b s known), are.size)

  pub slot-leads : (slot : ℕ) → slot ≡ slot_of b s → (slice_index_or slots slot empty_slot).place < length sessions
  slot-leads slot is = subst (λ m. (slice_index_or slots m empty_slot).place < length sessions) (sym is)
      (are.within b s known (let one = slot-once in omega arith))

  -- the session to which it leads
  module _ (place : ℕ) (x : SessionOwn) (place_is : place ≡ (slot_at slots b s).place) (here : slice_index_or sessions place x ≡ x) where
    session-named : is_named b s x ≡ true
    session-named =
        let one = slot-once in
        subst (λ (y : SessionOwn). IsTrue (is_named b s y)) here (subst (λ m. IsTrue (is_named b s (slice_index_or sessions m x)))
        (sym place_is) (are.named b s x known (omega arith)))

    session-inside : place < length sessions
    session-inside = (let leads = slot-leads (slot_of b s) refl in omega arith)

    -- it is the only one of its name
    session-place : (k : ℕ) (d : SessionOwn) → k < length sessions → is_named b s (slice_index_or sessions k d) ≡ true → k ≡ place
    session-place k d small named =
        let is = named-is b s (slice_index_or sessions k d) named in
        let slot_is : slot_at slots (slice_index_or sessions k d).bidder (slice_index_or sessions k d).session ≡ slot_at slots b s =
        λ i. slot_at slots (is.0 i) (is.1 i) in
        sym (are.found k d small (ap (λ (z : Slot). z.times) slot_is ∙ slot-once)) ∙ ap (λ (z : Slot). z.place) slot_is ∙ sym place_is

    module _ (h : List (Entry Offers)) where
      -- it differs from the history
      pub session-differs : (n : ℕ) → IsFirstDifference (own_pairs h (caller_of x)) x.pairs n → DiffersAt h sessions b s n
      session-differs n differs =
          let is = named-is b s x session-named in (
            place,
            x,
            session-inside,
            here,
            (
              session-named,
              subst (λ (c : Caller). IsFirstDifference (own_pairs h c) x.pairs n) (λ i. Session
                  (is.0 i) (is.1 i)) differs,
            ),
          )

      -- it agrees with the history
      pub session-agrees : own_pairs h (caller_of x) ≡ x.pairs → AgreesAt h sessions b s
      session-agrees own k d small named =
          let only = get_or_default sessions k d x small ∙ ap (λ m. slice_index_or sessions m x) (session-place k d small named) ∙ here in
          subst (OwnIs h) (sym only) own

-- an entry of a session is compared with the list of that session
module _ (t : Terms) (sessions : List SessionOwn) (chair : ChairOwn) (slots : List Slot) (h : List (Entry Offers)) (i : ℕ)
    (e : Entry Offers) (old new : Comparisons)
    (at : slice_get h i ≡ Some e) (was : AreCompared (take i h) sessions chair old) where
  pub compared-session : (b s place : ℕ) (x : SessionOwn) (o : Comparison) → AreSlots t sessions (length sessions) slots → StandOnce t sessions
      → e.caller ≡ Session b s → IsSessionOf t b s → place ≡ (slot_at slots b s).place → slice_index_or sessions place x ≡ x
      → IsCompared (own_pairs (take i h) (caller_of x) ++ (e.call, e.reply) ∷ []) x.pairs o
      → new.sessions.items ≡ set old.sessions.items place o → new.chair ≡ old.chair
      → AreCompared (take (i + 1) h) sessions chair new
  compared-session b s place x o are once caller known place_is here compared written kept =
      let inside = session-inside t sessions slots are once b s known place x place_is here in
      let written_inside : place < length old.sessions.items = omega (arith, was.size) in
      let named = session-named t sessions slots are once b s known place x place_is here in
      let own : own_pairs (take (i + 1) h) (caller_of x) ≡ own_pairs (take i h) (caller_of x) ++ (e.call, e.reply) ∷ [] =
      own_pairs_more (caller_of x) h i e at (ap (is_same_caller (caller_of x)) caller ∙ named) in
      record {
        size = ap length written ∙ length-set old.sessions.items place o ∙ was.size;
        each = λ k y q small is_y is_q.
            elim (cases_eq k place) [
              | inl same ↦
                  let y_is : y ≡ x = sym is_y ∙ get_or_default sessions k y x small ∙ ap (λ m. slice_index_or sessions m x) same ∙ here in
                  let q_is : q ≡ o = sym is_q ∙ ap (λ w. slice_index_or w k q) written
                  ∙ ap (λ m. slice_index_or (set old.sessions.items place o) m q) same
                  ∙ get_or-set_same old.sessions.items place o q written_inside in
                  subst (λ (z : SessionOwn). IsCompared (own_pairs (take (i + 1) h) (caller_of z)) z.pairs q) (sym y_is)
                  (subst (λ (p : Comparison). IsCompared (own_pairs (take (i + 1) h) (caller_of x)) x.pairs p) (sym q_is)
                  (subst (λ w. IsCompared w x.pairs o) (sym own) compared))
              | inr other ↦
                  let q_is : slice_index_or old.sessions.items k q ≡ q =
                  sym (get_or-set_other old.sessions.items place k o q other) ∙ sym (ap (λ w. slice_index_or w k q) written) ∙ is_q in
                  let unnamed = false_from_ne_true (is_named b s y) (λ named. other
                  (session-place t sessions slots are once b s known place x place_is here k y small (ap (is_named b s) is_y ∙ named)))
                  in
                  subst (λ w. IsCompared w y.pairs q) (sym (own_pairs_other (caller_of y) h i e at
                  (ap (is_same_caller (caller_of y)) caller ∙ unnamed))) (was.each k y q small is_y q_is)
            ];
        chair_is = subst (λ (p : Comparison). IsCompared (own_pairs (take (i + 1) h) Chair) chair.pairs p) (sym kept)
            (subst (λ w. IsCompared w chair.pairs old.chair) (sym (own_pairs_other Chair h i e at (ap (is_same_caller Chair) caller))) was.chair_is);
      }

  -- an entry of the chair is compared with the list of the chair
  pub compared-chair : e.caller ≡ Chair → IsCompared (own_pairs (take i h) Chair ++ (e.call, e.reply) ∷ []) chair.pairs new.chair
      → new.sessions.items ≡ old.sessions.items
      → AreCompared (take (i + 1) h) sessions chair new
  compared-chair caller compared kept = record {
    size = ap length kept ∙ was.size;
    each = λ k y q small is_y is_q.
        subst (λ w. IsCompared w y.pairs q) (sym (own_pairs_other (caller_of y) h i e at (ap (is_same_caller (caller_of y)) caller)))
        (was.each k y q small is_y (sym (ap (λ w. slice_index_or w k q) kept) ∙ is_q));
    chair_is = subst (λ w. IsCompared w chair.pairs new.chair) (sym (own_pairs_more Chair h i e at (ap (is_same_caller Chair) caller))) compared;
  }

-- the session of an entry is one of the rules
pub entry-known : (t : Terms) (h : List (Entry Offers)) → All (IsEntryOf t) h → (i : ℕ) (e : Entry Offers) → slice_get h i ≡ Some e
    → (b s : ℕ) → e.caller ≡ Session b s → IsSessionOf t b s
entry-known t h entries i e at b s caller =
    let entry : IsEntryOf t e = subst (IsEntryOf t) (get_or_from_slice_get h i e e at) (entries i e (slice_get_within h i e at)) in
    subst (λ (c : Caller). IsCallerOf t c) caller entry.caller

-- a comparison that is kept stays within the caller's own list
pub compared-within : {X : Type 0} (theirs own : List X) (c : Comparison) → IsCompared theirs own c → IsWithin (length own) c
compared-within theirs own (Agrees pairs) (few, are) = few
compared-within theirs own (Differs place) compared = tt

compared-nothing : (caller : Caller) (own : List (Call Offers × Reply Offers)) → IsCompared (own_pairs [] caller) own (Agrees 0)
unfolding own_pairs
compared-nothing caller own = (omega arith, refl)

-- before the first entry nothing was compared
pub compared-start : (sessions : List SessionOwn) (chair : ChairOwn) (c : Comparisons)
    → c.sessions.items ≡ replicate (length sessions) (Agrees 0) → c.chair ≡ Agrees 0 → AreCompared [] sessions chair c
compared-start sessions chair c items start = record {
  size = ap length items ∙ length-replicate (length sessions) (Agrees 0);
  each = λ k x o small is_x is_o.
      subst (λ (p : Comparison). IsCompared (own_pairs [] (caller_of x)) x.pairs p)
      (sym (get_or-replicate (length sessions) k (Agrees 0) o small) ∙ sym (ap (λ w. slice_index_or w k o) items) ∙ is_o)
      (compared-nothing (caller_of x) x.pairs);
  chair_is = subst (λ (p : Comparison). IsCompared (own_pairs [] Chair) chair.pairs p) (sym start) (compared-nothing Chair chair.pairs);
}
