use Rattle.std.proofs.Common.{rules, ◌≡◌, ◌<◌, List, map, ap, sym, ◌∙◌, subst, arith, inl, inr}
use Rattle.std.specs.Prelude.{slice_index_or}
use Rattle.std.proofs.lemmas.Bool.{cases_lt}
use Rattle.auction_terms.specs.Terms.{Terms}
use Rattle.bid_forms.specs.Offers.{Offers}
use Rattle.bid_book.specs.declared.call.Call.{Call}
use Rattle.bid_book.specs.declared.call.Caller.TheVariants.{Chair}
use Rattle.bid_book.specs.declared.reply.Reply.{Reply}
use Rattle.bid_book.specs.History.{entry_value, own_pairs}
use Rattle.bid_desk.specs.inside.Comparing.{IsCompared}
use Rattle.bid_desk.specs.Holding.{caller_of}
use Rattle.bid_desk.specs.Sessions.{IsSessionOf}
use Rattle.bid_desk.specs.Settlement.{AgreesAt, IsFirstDifference}
use Rattle.bid_desk.specs.inside.Slots.{empty_slot, slot_of}
use Rattle.bid_desk.proofs.CompareFacts.{session-agrees, session-differs, slot-leads, slot-small}
use Rattle.bid_desk.proofs.SlotFacts.{slot-before, slot-same}
use Rattle.bid_desk.proofs.settle.differing.Goals.{in-Some+in_default-difference, in_default}
use Rattle.bid_desk.proofs.settle.differing.Goals as goal

pub index-comparison-requires : goal.index-comparison-requires
index-comparison-requires g c =
    let (of_rules, is) = c.in-Some.ensures.some in
    let known = subst (λ (t : Terms). IsSessionOf t c.in-Some.bidder c.in-Some.session) c.requires.rules of_rules in
    omega (arith, slot-leads _ _ _ c.requires.slots c.requires.once _ _ known _ (sym is), c.in_ok-comparisons.ensures.size)

pub bounds-sessions-at : goal.bounds-sessions-at
bounds-sessions-at g c =
    let (of_rules, is) = c.in-Some.ensures.some in
    slot-leads _ _ _ c.requires.slots c.requires.once _ _ (subst (λ (t : Terms). IsSessionOf t c.in-Some.bidder c.in-Some.session)
    c.requires.rules of_rules) _ (sym is)

pub offset_bounds-sessions-at : goal.offset_bounds-sessions-at
offset_bounds-sessions-at g c =
    let (of_rules, is) = c.in-Some.ensures.some in
    let small = slot-leads _ _ _ c.requires.slots c.requires.once _ _
    (subst (λ (t : Terms). IsSessionOf t c.in-Some.bidder c.in-Some.session) c.requires.rules of_rules) _ (sym is) in
    search rules

pub returns-in-Some-difference-clause-differs : goal.returns-in-Some-difference-clause-differs
returns-in-Some-difference-clause-differs g c =
    let t = g.L.Round.rules in
    let b = c.in-Some.bidder in
    let s = c.in-Some.session in
    let sessions = c.args.sessions.now in
    let slots = c.args.slots.now in
    let h = map entry_value c.args.history.now in
    let x = c.index-sessions-at.result in
    let o = c.index-comparison.result.now in
    let theirs = own_pairs h (caller_of x) in
    let (of_rules, is) = c.in-Some.ensures.some in
    let known = subst (λ (t : Terms). IsSessionOf t b s) c.requires.rules of_rules in
    let compared = c.in_ok-comparisons.ensures.each _ x o (slot-leads t sessions slots c.requires.slots c.requires.once b s known _
    (sym is)) (sym c.index-sessions-at.is) (sym c.index-comparison.ensures) in
    let differs = c.in-Some-difference.ensures.differs theirs (subst (λ (w : List (Call Offers × Reply Offers)). IsCompared theirs w o)
    (sym c.own.ensures.pairs) compared) in
    record {
      known = known;
      differs = session-differs t sessions slots c.requires.slots c.requires.once b s known _ x
          (ap (λ m. (slice_index_or slots m empty_slot).place) (sym is)) (sym c.index-sessions-at.is) h c.in-Some-difference.place
          (subst (λ (w : List (Call Offers × Reply Offers)). IsFirstDifference theirs w c.in-Some-difference.place) c.own.ensures.pairs differs);
      first = λ d u earlier before. c.loop-slot.invariant d u earlier
          (subst (λ m. slot_of d u < m) is (slot-before d u b s earlier.bidder_least earlier.session_least
          (c.requires.slots.most d u earlier) known.session_least before));
    }

pub loop-slot-preserved : goal.loop-slot-preserved
loop-slot-preserved g c d u of_rules less =
    let t = g.L.Round.rules in
    let sessions = c.args.sessions.now in
    let slots = c.args.slots.now in
    let h = map entry_value c.args.history.now in
    elim (cases_lt (slot_of d u) c.loop-slot.slot) [
      | inl earlier ↦ c.loop-slot.invariant d u of_rules earlier
      | inr late ↦
          let same : slot_of d u ≡ c.loop-slot.slot = omega arith in
          elim c.match-session_at.branch [
            | in-Some+in_default-difference w ↦
                let b = w.in-Some.bidder in
                let s = w.in-Some.session in
                let x = w.index-sessions-at.result in
                let o = w.index-comparison.result.now in
                let theirs = own_pairs h (caller_of x) in
                let (named, is) = w.in-Some.ensures.some in
                let known = subst (λ (t : Terms). IsSessionOf t b s) c.requires.rules named in
                let compared = c.in_ok-comparisons.ensures.each _ x o (slot-leads t sessions slots c.requires.slots c.requires.once b s
                known _ (sym is)) (sym w.index-sessions-at.is) (sym w.index-comparison.ensures) in
                let own = w.in_default-difference.ensures.same theirs (subst
                (λ (v : List (Call Offers × Reply Offers)). IsCompared theirs v o) (sym w.own.ensures.pairs) compared) in
                let agrees = session-agrees t sessions slots c.requires.slots c.requires.once b s known _ x
                (ap (λ m. (slice_index_or slots m empty_slot).place) (sym is)) (sym w.index-sessions-at.is) h
                (own ∙ w.own.ensures.pairs) in
                let one = slot-same b s d u known.bidder_least known.session_least (c.requires.slots.most b s known) of_rules.bidder_least
                of_rules.session_least (c.requires.slots.most d u of_rules) (is ∙ sym same) in
                subst (λ m. AgreesAt h sessions m u) one.0 (subst (λ m. AgreesAt h sessions b m) one.1 agrees)
            | in_default w ↦ absurd (w.in_default.ensures.none d u (subst (λ (t : Terms). IsSessionOf t d u) (sym c.requires.rules) of_rules) same)
          ]
    ]

pub returns-in-Some-difference-2-clause-differs : goal.returns-in-Some-difference-2-clause-differs
returns-in-Some-difference-2-clause-differs g c =
    let theirs = own_pairs (map entry_value c.args.history.now) Chair in
    let compared = subst (λ (w : List (Call Offers × Reply Offers)). IsCompared theirs w c.in_ok-comparisons.comparisons.chair)
    (sym c.own-2.ensures.pairs) c.in_ok-comparisons.ensures.chair_is in (
      record {
        each = λ b s known. c.loop-slot.invariant b s known (omega
            (arith, slot-small _ _ _ c.requires.slots c.requires.once b s known, c.loop-slot-test.false));
      },
      subst (λ (w : List (Call Offers × Reply Offers)). IsFirstDifference theirs w c.in-Some-difference-2.place) c.own-2.ensures.pairs
          (c.in-Some-difference-2.ensures.differs theirs compared),
    )

pub returns-clause-sessions : goal.returns-clause-sessions
returns-clause-sessions g c =
    record {
      each = λ b s known. c.loop-slot.invariant b s known (omega
          (arith, slot-small _ _ _ c.requires.slots c.requires.once b s known, c.loop-slot-test.false));
    }

pub returns-clause-chair : goal.returns-clause-chair
returns-clause-chair g c =
    let theirs = own_pairs (map entry_value c.args.history.now) Chair in
    let compared = subst (λ (w : List (Call Offers × Reply Offers)). IsCompared theirs w c.in_ok-comparisons.comparisons.chair)
    (sym c.own-2.ensures.pairs) c.in_ok-comparisons.ensures.chair_is in
    c.in-None.ensures.same theirs compared ∙ c.own-2.ensures.pairs
