use Rattle.std.proofs.Common.{rules, ℕ, ◌≡◌, ◌<◌, List, [], ◌∷◌, ◌++◌, length, map, take, ap, sym, ◌∙◌, subst, arith, refl}
use Rattle.std.specs.Prelude.{All, Some, slice_get, slice_index_or}
use Rattle.std.specs.Option.{option_map}
use Rattle.std.specs.declared.sync.Arc.{Arc}
use Rattle.std.proofs.lemmas.List.{length-map}
use Rattle.std.proofs.lemmas.Option.{slice_get-map, slice_get_read}
use Rattle.auction_terms.specs.Terms.{Terms}
use Rattle.bid_forms.specs.Offers.{Offers}
use Rattle.bid_book.specs.declared.call.Caller.TheVariants.{Session, Chair}
use Rattle.bid_book.specs.declared.call.Call.{Call}
use Rattle.bid_book.specs.declared.records.Entry.{Entry}
use Rattle.bid_book.specs.declared.reply.Reply.{Reply}
use Rattle.bid_book.specs.History.{entry_value, own_pairs}
use Rattle.bid_desk.specs.declared.slots.Slot.{Slot}
use Rattle.bid_desk.specs.inside.Comparing.{IsCompared, IsWithin}
use Rattle.bid_desk.specs.Holding.{IsEntryOf, SessionOwn, caller_of, pair_value}
use Rattle.bid_desk.specs.Sessions.{IsSessionOf}
use Rattle.bid_desk.specs.Settlement.{StandOnce}
use Rattle.bid_desk.specs.inside.Slots.{AreSlots, empty_slot, slot_of}
use Rattle.bid_desk.proofs.CompareFacts.{compared-chair, compared-session, compared-within, entry-known, slot-leads, slot-small}
use Rattle.bid_desk.proofs.comparing.compare_entry.Goals as goal

-- the entry that was read, as contracts see it
entry-at : {Z : Type 0} (history : List (Entry (Arc Offers Z))) (i : ℕ) (e : Entry (Arc Offers Z)) → i < length history
    → e ≡ slice_index_or history i e → slice_get (map entry_value history) i ≡ Some (entry_value e)
entry-at history i e small is = slice_get-map entry_value history i ∙ ap (option_map entry_value) (slice_get_read history _ i e refl small is)

-- its session is one of the rules, and the slot of that session leads to a session
module _ {Z : Type 0} {t : Terms} (history : List (Entry (Arc Offers Z))) {i : ℕ} {e : Entry (Arc Offers Z)} {b s : ℕ}
    (entries : All (IsEntryOf t) (map entry_value history)) (small : i < length history) (is : e ≡ slice_index_or history i e)
    (caller : e.caller ≡ Session b s) where
  session-known : IsSessionOf t b s
  session-known = entry-known t (map entry_value history) entries i (entry_value e) (entry-at history i e small is) b s caller

  leads-there : {sessions : List SessionOwn} {slots : List Slot} {slot : ℕ} → AreSlots t sessions (length sessions) slots
      → StandOnce t sessions → slot ≡ slot_of b s → (slice_index_or slots slot empty_slot).place < length sessions
  leads-there {sessions} {slots} are once slot_is = slot-leads t sessions slots are once b s session-known _ slot_is

pub slot_of-requires-clause-bidder : goal.slot_of-requires-clause-bidder
slot_of-requires-clause-bidder g c =
    (session-known c.args.history.now c.requires.entries c.requires.within c.index-history-place.is c.in-Session.is).bidder_least

pub slot_of-requires-clause-session : goal.slot_of-requires-clause-session
slot_of-requires-clause-session g c =
    (session-known c.args.history.now c.requires.entries c.requires.within c.index-history-place.is c.in-Session.is).session_least

pub bounds-slots-slot_of : goal.bounds-slots-slot_of
bounds-slots-slot_of g c =
    let known = session-known c.args.history.now c.requires.entries c.requires.within c.index-history-place.is c.in-Session.is in
    omega (arith, slot-small _ _ _ c.requires.slots c.requires.once _ _ known, c.slot_of.ensures)

pub index-so_far-requires : goal.index-so_far-requires
index-so_far-requires g c =
    let leads = leads-there c.args.history.now c.requires.entries c.requires.within c.index-history-place.is c.in-Session.is
    c.requires.slots c.requires.once c.slot_of.ensures in
    omega (arith, leads, c.requires.compared.size)

pub bounds-sessions-at : goal.bounds-sessions-at
bounds-sessions-at g c = leads-there c.args.history.now c.requires.entries c.requires.within c.index-history-place.is c.in-Session.is
    c.requires.slots c.requires.once c.slot_of.ensures

pub index_mut-requires : goal.index_mut-requires
index_mut-requires g c =
    let leads = leads-there c.args.history.now c.requires.entries c.requires.within c.index-history-place.is c.in-Session.is
    c.requires.slots c.requires.once c.slot_of.ensures in
    omega (arith, leads, c.requires.compared.size)

pub offset_bounds-sessions-at : goal.offset_bounds-sessions-at
offset_bounds-sessions-at g c =
    let leads = leads-there c.args.history.now c.requires.entries c.requires.within c.index-history-place.is c.in-Session.is
    c.requires.slots c.requires.once c.slot_of.ensures in
    search rules

pub with-requires : goal.with-requires
with-requires g c =
    let x = c.index-sessions-at.result in
    let o = c.index-so_far.result.now in
    let leads = leads-there c.args.history.now c.requires.entries c.requires.within c.index-history-place.is c.in-Session.is
    c.requires.slots c.requires.once c.slot_of.ensures in
    let within = compared-within _ _ o (c.requires.compared.each _ x o leads (sym c.index-sessions-at.is) (sym c.index-so_far.ensures)) in
    subst (λ n. IsWithin n o) (ap length (sym c.own.ensures.pairs) ∙ length-map c.own.result.now pair_value) within

pub returns-in-Session : goal.returns-in-Session
returns-in-Session g c =
    let b = c.in-Session.bidder in
    let s = c.in-Session.session in
    let history = map entry_value c.args.history.now in
    let e = entry_value c.index-history-place.result in
    let x = c.index-sessions-at.result in
    let o = c.index-so_far.result.now in
    let theirs = own_pairs (take c.args.place history) (caller_of x) in
    let known = session-known c.args.history.now c.requires.entries c.requires.within c.index-history-place.is c.in-Session.is in
    let leads = leads-there c.args.history.now c.requires.entries c.requires.within c.index-history-place.is c.in-Session.is
    c.requires.slots c.requires.once c.slot_of.ensures in
    let was = c.requires.compared.each _ x o leads (sym c.index-sessions-at.is) (sym c.index-so_far.ensures) in
    let now = c.with.ensures theirs (subst (λ (w : List (Call Offers × Reply Offers)). IsCompared theirs w o) (sym c.own.ensures.pairs) was) in
    compared-session g.L.Round.rules c.args.sessions.now c.args.chair.now c.args.slots.now history c.args.place e c.args.comparisons.now _
    (entry-at c.args.history.now c.args.place c.index-history-place.result c.requires.within c.index-history-place.is) c.requires.compared
    b s (slice_index_or c.args.slots.now c.slot_of.result empty_slot).place x c.with.result c.requires.slots c.requires.once c.in-Session.is known
    (ap (λ m. (slice_index_or c.args.slots.now m empty_slot).place) c.slot_of.ensures) (sym c.index-sessions-at.is)
    (subst (λ (w : List (Call Offers × Reply Offers)). IsCompared (theirs ++ (e.call, e.reply) ∷ []) w c.with.result) c.own.ensures.pairs now)
    refl refl

pub returns-in-Chair : goal.returns-in-Chair
returns-in-Chair g c =
    let t = g.L.Round.rules in
    let history = map entry_value c.args.history.now in
    let h = take c.args.place history in
    let e = entry_value c.index-history-place.result in
    let own = c.own-in-Chair.ensures.pairs in
    let now = c.with-comparisons.ensures (own_pairs h Chair) (subst
    (λ (w : List (Call Offers × Reply Offers)). IsCompared (own_pairs h Chair) w c.args.comparisons.now.chair) (sym own)
    c.requires.compared.chair_is) in
    compared-chair t c.args.sessions.now c.args.chair.now c.args.slots.now history c.args.place e c.args.comparisons.now _
    (entry-at c.args.history.now c.args.place c.index-history-place.result c.requires.within c.index-history-place.is) c.requires.compared
    c.in-Chair.is
    (subst (λ (w : List (Call Offers × Reply Offers)). IsCompared (own_pairs h Chair ++ (e.call, e.reply) ∷ []) w c.with-comparisons.result) own now)
    refl
