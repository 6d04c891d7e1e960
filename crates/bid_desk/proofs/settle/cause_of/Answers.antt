use Rattle.std.proofs.Common.{◌≡◌, List, length, subst, map}
use Rattle.auction_terms.specs.Terms.{Terms}
use Rattle.bid_forms.specs.Offers.{Offers}
use Rattle.bid_book.specs.declared.call.Caller.TheVariants.{Chair}
use Rattle.bid_book.specs.declared.records.Entry.{Entry}
use Rattle.bid_book.specs.History.{entry_value, own_pairs}
use Rattle.bid_desk.specs.declared.slots.Slot.{Slot}
use Rattle.bid_desk.specs.Sessions.{IsSessionOf}
use Rattle.bid_desk.specs.Holding.{SessionOwn}
use Rattle.bid_desk.specs.Settlement.{AgreeAll, IsFirstOfAll, StandOnce}
use Rattle.bid_desk.specs.inside.Slots.{AllOnce, AreSlots, IsFirstWrong}
use Rattle.bid_desk.proofs.SettleFacts.{callers_from_entries, own_from_agrees}
use Rattle.bid_desk.proofs.SlotFacts.{first-missing, stand-once}
use Rattle.bid_desk.proofs.settle.cause_of.Goals as goal

pub missing-requires-clause-most : goal.missing-requires-clause-most
missing-requires-clause-most g c b s known = c.in_ok-slots.ensures.slots.most b s (subst (λ (t : Terms). IsSessionOf t b s) c.stopped.invariant known)

pub returns-in-Some-clause-some : goal.returns-in-Some-clause-some
returns-in-Some-clause-some g c =
    let t = g.L.Round.rules in
    let wrong = subst (λ (w : List Slot). IsFirstWrong t w c.in-Some.bidder c.in-Some.session) c.deref.ensures.value
    (subst (λ (t : Terms). IsFirstWrong t c.deref.result.now c.in-Some.bidder c.in-Some.session) c.stopped.invariant
    c.in-Some.ensures.some) in
    (c.requires, first-missing t c.args.sessions.now c.in_ok-slots.slots.items c.in_ok-slots.ensures.slots c.in-Some.bidder c.in-Some.session wrong)

-- each session is there once if each slot that was read says so
stands-once : {t u : Terms} {sessions : List SessionOwn} {slots read : List Slot} → AreSlots t sessions (length sessions) slots
    → read ≡ slots → u ≡ t → AllOnce u read → StandOnce t sessions
stands-once {t} {u} {sessions} {slots} {read} are same rules once =
    stand-once t sessions slots are (subst (λ (w : List Slot). AllOnce t w) same (subst (λ (r : Terms). AllOnce r read) rules once))

pub differing-requires-clause-once : goal.differing-requires-clause-once
differing-requires-clause-once g c = stands-once c.in_ok-slots.ensures.slots c.deref.ensures.value c.stopped.invariant c.in_default.ensures.none

pub returns-in-Some-2-clause-some : goal.returns-in-Some-2-clause-some
returns-in-Some-2-clause-some g c =
    let differs = rw c.in-Some-2.is at c.in_ok-caller.ensures.differs in
    let history : map entry_value c.history-history.result.now ≡ c.args.stopped.now.history = c.history-history.ensures.entries in (
      c.requires,
      stands-once c.in_ok-slots.ensures.slots c.deref.ensures.value c.stopped.invariant c.in_default.ensures.none,
      subst (λ (w : List (Entry Offers)). IsFirstOfAll g.L.Round.rules w c.args.chair.now c.args.sessions.now c.in-Some-2.caller
          c.in-Some-2.place) history differs,
    )

pub returns-clause-none : goal.returns-clause-none
returns-clause-none g c =
    let t = g.L.Round.rules in
    let h = c.args.stopped.now.history in
    let history : map entry_value c.history-history.result.now ≡ h = c.history-history.ensures.entries in
    let agrees = rw c.in_default-2.is at c.in_ok-caller.ensures.sessions in
    let chair = rw c.in_default-2.is at c.in_ok-caller.ensures.chair in
    record {
      closed = c.requires;
      once = (stands-once c.in_ok-slots.ensures.slots c.deref.ensures.value c.stopped.invariant c.in_default.ensures.none).each;
      own_is = own_from_agrees t h c.args.sessions.now c.in_ok-slots.ensures.slots.known
          (subst (λ (w : List (Entry Offers)). AgreeAll t w c.args.sessions.now) history agrees).each;
      chair_is = subst (λ (w : List (Entry Offers)). own_pairs w Chair ≡ c.args.chair.now.pairs) history chair;
      callers = callers_from_entries t h c.history-history.ensures.rules;
    }
