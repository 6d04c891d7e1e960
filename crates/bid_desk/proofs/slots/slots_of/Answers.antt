use Rattle.std.proofs.Common.{ℕ, ◌≡◌, ◌+◌, ◌*◌, ◌<◌, List, length, take, ap, sym, ◌∙◌, subst, arith, replicate}
use Rattle.std.specs.Prelude.{slice_index_or, slice_set}
use Rattle.std.proofs.lemmas.List.{get_or_default, length-take-le}
use Rattle.std.proofs.lemmas.List.Sums.{count_by-le-length}
use Rattle.auction_terms.specs.Terms.{AreTerms, Terms}
use Rattle.auction_terms.specs.declared.rules.Bidder.{Bidder}
use Rattle.auction_terms.specs.declared.limits.TheConstants.{MOST_SESSIONS}
use Rattle.bid_desk.specs.declared.slots.Slot.{Slot}
use Rattle.bid_desk.specs.Holding.{SessionOwn}
use Rattle.bid_desk.specs.Sessions.{IsSessionOf}
use Rattle.bid_desk.specs.Settlement.{is_named}
use Rattle.bid_desk.specs.inside.Slots.{AreSlots, empty_slot, slot_at, slot_of}
use Rattle.bid_desk.proofs.SlotFacts.{slot-within, slots-empty, slots-more}
use Rattle.bid_desk.proofs.slots.slots_of.Goals as goal

pub loop-place-init : goal.loop-place-init
loop-place-init g c =
    let t = g.L.Round.rules in
    let items : c.in_ok-slots.slots.items ≡ replicate (length t.bidders * MOST_SESSIONS) empty_slot =
    c.in_ok-slots.ensures.items_if_clones_equal (λ y same. same)
    ∙ ap (λ (xs : List Bidder). replicate (length xs * MOST_SESSIONS) empty_slot)
    (c.bidders.ensures.value ∙ ap (λ (u : Terms). u.bidders) c.requires) in
    rw items (slots-empty t c.args.sessions.now (subst (λ u. AreTerms u) c.requires c.bidders.ensures.terms))

-- the slot of a session of the rules is there, and is the one that is read
module _ {t : Terms} {sessions : List SessionOwn} {n : ℕ} {slots : List Slot} {i b s : ℕ} (are : AreSlots t sessions n slots)
    (known : IsSessionOf t b s) (is : i ≡ slot_of b s) where
  slot-there : i < length slots
  slot-there = omega (arith, slot-within b s (length t.bidders) known.bidder_least known.bidder_most known.session_least (are.most b s known), are.size, is)

  read-is : (read : Slot) → read ≡ slice_index_or slots i read → read ≡ slot_at slots b s
  read-is read at = at ∙ get_or_default slots i read empty_slot slot-there ∙ ap (λ m. slice_index_or slots m empty_slot) is

pub index-requires : goal.index-requires
index-requires g c = omega (arith, slot-there c.loop-place.invariant c.slot-slot.ensures.known c.slot-slot.ensures.slot)

pub overflow_add-times : goal.overflow_add-times
overflow_add-times g c =
    let x = c.index-sessions-place.result in
    let was = c.loop-place.invariant in
    let known = c.slot-slot.ensures.known in
    let before = take c.loop-place.place c.args.sessions.now in
    let read = ap (λ (o : Slot). o.times) (read-is was known c.slot-slot.ensures.slot c.index.result.now c.index.ensures)
    ∙ was.times_are x.bidder x.session known in
    omega (arith, read, count_by-le-length (is_named x.bidder x.session) before, length-take-le c.loop-place.place c.args.sessions.now (omega arith))

pub loop-place-preserved : goal.loop-place-preserved
loop-place-preserved g c =
    let t = g.L.Round.rules in
    let x = c.index-sessions-place.result in
    let was = c.loop-place.invariant in
    let known = c.slot-slot.ensures.known in
    let sessions = c.args.sessions.now in
    let place = c.loop-place.place in
    let slots = c.loop-place.slots.items in
    let read = read-is was known c.slot-slot.ensures.slot c.index.result.now c.index.ensures in
    let here = λ (d : SessionOwn). get_or_default sessions place d x c.loop-place-test.true ∙ sym c.index-sessions-place.is in
    subst (λ (w : List Slot). AreSlots t sessions (place + 1) w)
    (λ i. slice_set slots (sym c.slot-slot.ensures.slot i) (record { times = (sym read i).times + 1; place = place }))
    (slots-more t sessions place slots x was c.loop-place-test.true here known)

pub index_mut-requires : goal.index_mut-requires
index_mut-requires g c = omega (arith, slot-there c.loop-place.invariant c.slot-slot.ensures.known c.slot-slot.ensures.slot)
